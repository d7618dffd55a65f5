-- What a run tells of the report and of the new cache.
use Rattle.std.specs.Prelude.{◌≡◌, Bool, true, false, List, Option, None, Some, option_map}
use Rattle.std.proofs.Common.{refl, ap, sym, subst, ◌∙◌}
use Rattle.tla_io.specs.Told.{Bytes, Folder}
use Rattle.core_expr.specs.declared.canon.Canon.{Canon}
use Rattle.theorem_leaves.specs.Chapters.{chapters_of}
use Rattle.status_report.specs.declared.table.ModuleIn.{ModuleIn}
use Rattle.status_report.specs.Report.{has_memory_leaf}
use Rattle.leaf_jobs.specs.Laws.{ReportWithoutMemory}
use Rattle.command_words.specs.Requests.{Asked}
use Rattle.proof_manager.specs.declared.jobs.Outcome.{Outcome}
use Rattle.proof_manager.specs.declared.status.Status.{Status}
use Rattle.proof_manager.specs.declared.status.Status.TheVariants as status
use Rattle.proof_manager.specs.Reading.{Read}
use Rattle.proof_manager.specs.Runs.{IsRead, Proofs, came, defined, told, style_of, all_hold}
use Rattle.proof_manager.specs.Caching.{Contents, Change, AreKept, IsLeft, IsMade, IsReplaced}
use Rattle.proof_manager.specs.Judging.{no_form, IsOut, IsJudgedWith}
use Rattle.proof_manager.specs.Causes.{WhereTold, TakesReport, TakesPart, Tells, EndsTold, WhereReported, Writes}

as-defined : (ps : Proofs) (a : Asked) (r : Read) (lost : Canon → Bool) → ReportWithoutMemory → has_memory_leaf (told ps lost a r).0 ≡ false → told ps lost a r ≡ defined ps a r
as-defined ps a r lost law m = law a.stop lost (came ps a.turns) r.table.entries (chapters_of r.modules r.table) m

-- where the file was replaced by the new cache that was made, it has the new cache
left : (stopped : Bool) (file : Option Bytes) (Out More : Bytes → Type 0) (made : Option Bytes) (files : Change Contents) → IsMade stopped file Out made → IsReplaced file made files
    → (stopped ≡ false → (bytes : Bytes) → Out bytes → More bytes) → IsLeft stopped file More files
left stopped None Out More made files m r f = r
left true (Some file) Out More made files m r f = subst (λ b. IsReplaced (Some file) b files) m r
left false (Some file) Out More made files m r f = (m.0, f refl m.0 m.1, subst (λ b. IsReplaced (Some file) b files) m.2 r)

module _ (a : Asked) (r : Read) (ps : Proofs) (o : Outcome) (lost : Canon → Bool) (files : Change Contents) (taken : Change (Option Bytes)) (law : ReportWithoutMemory)
    (kept : AreKept a.cache files.before ps) (is : IsJudgedWith ps a r o lost) where
  abbrev ms : List ModuleIn × Bool
  ms = (o.judged.modules, o.judged.stopped)

  abbrev made : Option Bytes
  made = option_map (λ v. v.items) o.next

  no-memory : has_memory_leaf ms.0 ≡ false → has_memory_leaf (told ps lost a r).0 ≡ false
  no-memory m = ap (λ (x : List ModuleIn × Bool). has_memory_leaf x.0) (sym is.is) ∙ m

  -- where no leaf wanted memory, the report is the defined one, and so is the new cache
  same : has_memory_leaf ms.0 ≡ false → ms ≡ defined ps a r
  same m = is.is ∙ as-defined ps a r lost law (no-memory m)

  found-left : has_memory_leaf ms.0 ≡ false → IsReplaced a.cache made files → IsLeft (told ps no_form a r).1 a.cache (IsOut ps no_form a r) files
  found-left m w =
      subst (λ (x : List ModuleIn × Bool). IsLeft x.1 a.cache (IsOut ps no_form a r) files) (as-defined ps a r lost law (no-memory m))
      (left (told ps lost a r).1 a.cache (IsOut ps lost a r) (IsOut ps no_form a r) made files is.made w (λ s bytes out. is.found s (no-memory m) bytes out))

  pub tells : (s : Status) → Writes (style_of a) ms a.cache made files taken s → Tells a r files taken s
  tells status.AllProved w =
      let e = same w.0 in
      (ps, kept, sym (ap all_hold e) ∙ w.1, subst (λ m. TakesReport (style_of a) m taken.before taken.after) e w.2.0, found-left w.0 w.2.1)
  tells status.NotAll w =
      let e = same w.0 in
      (ps, kept, sym (ap all_hold e) ∙ w.1, subst (λ m. TakesReport (style_of a) m taken.before taken.after) e w.2.0, found-left w.0 w.2.1)
  tells status.MemoryLeaf w = (
    ps,
    kept,
    lost,
    ap (λ (x : List ModuleIn × Bool). has_memory_leaf x.0) (sym is.is) ∙ w.0,
    subst (λ m. TakesReport (style_of a) m taken.before taken.after) is.is w.1.0,
    left (told ps lost a r).1 a.cache (IsOut ps lost a r) (IsOut ps lost a r) made files is.made w.1.1 (λ s bytes out. out),
  )
  tells status.WriteFault w = (ps, kept, lost, subst (λ m. TakesPart (style_of a) m taken.before taken.after) is.is w)
  tells status.CacheWrite w = (ps, kept, lost, subst (λ m. TakesReport (style_of a) m taken.before taken.after) is.is w.0, w.1)
  tells status.Memory w = tt
  tells status.CacheRead w = tt
  tells status.Words w = absurd w
  tells (status.Refused name place kind) w = absurd w
  tells (status.NotFound name) w = absurd w
  tells status.ReadFault w = absurd w

-- where the modules are read, what is told of their report is how the run ends
pub ends : (s : Status) (held : Option Folder) (a : Asked) (r : Read) (files : Change Contents) (taken : Change (Option Bytes)) → WhereTold held (λ folder. IsRead a folder r) → Tells a r files taken s → EndsTold s held a files taken
ends s None a r files taken h t = tt
ends status.AllProved (Some folder) a r files taken h t = (r, h, t)
ends status.NotAll (Some folder) a r files taken h t = (r, h, t)
ends status.MemoryLeaf (Some folder) a r files taken h t = (r, h, t)
ends status.WriteFault (Some folder) a r files taken h t = (r, h, t)
ends status.CacheWrite (Some folder) a r files taken h t = (r, h, t)
ends status.CacheRead (Some folder) a r files taken h t = (r, h, t)
ends status.Memory (Some folder) a r files taken h t = tt
ends _ (Some folder) a r files taken h t = absurd t

-- what is so of all that is read is so where a report is told
pub of-reported : (P : Asked → Read → Type 0) (s : Status) (held : Option Folder) (a : Asked) (r : Read) (files : Change Contents) (taken : Change (Option Bytes))
    → WhereTold held (λ folder. IsRead a folder r) → Tells a r files taken s → ((folder : Folder) → IsRead a folder r → P a r) → WhereReported P s held a
of-reported P s None a r files taken h t p = tt
of-reported P status.AllProved (Some folder) a r files taken h t p = (r, h, p folder h)
of-reported P status.NotAll (Some folder) a r files taken h t p = (r, h, p folder h)
of-reported P status.MemoryLeaf (Some folder) a r files taken h t p = (r, h, p folder h)
of-reported P status.WriteFault (Some folder) a r files taken h t p = (r, h, p folder h)
of-reported P status.CacheWrite (Some folder) a r files taken h t p = (r, h, p folder h)
of-reported P status.CacheRead (Some folder) a r files taken h t p = tt
of-reported P status.Memory (Some folder) a r files taken h t p = tt
of-reported P _ (Some folder) a r files taken h t p = absurd t
