-- A file that was written is read back.
use Rattle.std.proofs.Common.{◌≡◌, ℕ, ◌⊎◌, inl, inr, List, [], ◌∷◌, ◌++◌, Bool, true, false, not, nat_eq, refl, ap, sym, subst, ◌∙◌, append_assoc}
use Rattle.std.specs.Prelude.{Option, Some, Result, Ok, Err, IfOk, Vec}
use Rattle.std.specs.declared.alloc.Global.{Global}
use Rattle.core_expr.specs.declared.memory.Memory.{Memory}
use Rattle.std.specs.List.{AllByRecursion}
use Rattle.std.proofs.lemmas.Bool.{and_parts}
use Rattle.core_expr.specs.declared.canon.Canon.{Canon}
use Rattle.seq_calculus.specs.Lists.{AreLists}
use Rattle.text_writer.specs.Laws.{ProofIsShown}
use Rattle.text_writer.specs.Tables.{canon_list}
use Rattle.cache_line.specs.declared.line.Line.{Line}
use Rattle.cache_line.specs.Lines.{IsLine, is_one_line, line_text}
use Rattle.proof_cache.specs.declared.record.Record.{Record}
use Rattle.proof_cache.specs.declared.verdict.Verdict.{Verdict}
use Rattle.cache_file.specs.Lines.{lines_of}
use Rattle.cache_file.specs.Records.{AreRecords, IsRecord, parts_of}
use Rattle.cache_file.specs.Written.{IsWritten, AreReadBack, IsSame, IsReadable, file_of, proved_jobs, written_line, written_parts}

-- where nothing is left of the jobs or of the verdicts, no job is proved
pub none_left : (cs : List Canon) (vs : List (Option Verdict)) → (cs ≡ []) ⊎ (vs ≡ []) → proved_jobs cs vs ≡ []
none_left cs vs (inl e) = ap (λ ds. proved_jobs ds vs) e
none_left [] vs (inr e) = refl
none_left (c ∷ cs) vs (inr e) = ap (proved_jobs (c ∷ cs)) e

-- what writing the parts of a record's line answers
pub written_by : (r : Record) (l : Line) → l ≡ written_parts r → AreLists r.proof → (o : Result (Vec ℕ Global) Memory) → IfOk o (λ b. b.items ≡ line_text l) → IfOk o (λ b. is_one_line b.items ≡ true) → IfOk o (λ b. IsLine b.items l)
    → record { text : IfOk o (λ b. b.items ≡ written_line r); written : IfOk o (λ b. IsWritten r) }
written_by r l same lists (Err e) t u v = record { text = tt; written = tt }
written_by r l same lists (Ok b) t u v =
    let text = t ∙ ap line_text same in
    record {
      text = text;
      written = record { line = subst (λ m. IsLine (written_line r) m) same (subst (λ x. IsLine x l) text v); one_line = subst (λ x. is_one_line x ≡ true) text u; allowed = lists };
    }

-- ---- lines

not_feed : (b : Bool) → not b ≡ true → b ≡ false
not_feed true e = cc
not_feed false e = refl

line_before : (l bs : List ℕ) → is_one_line l ≡ true → lines_of (l ++ 10 ∷ bs) ≡ l ∷ lines_of bs
line_before [] bs h = refl
line_before (b ∷ l) bs h = let p = and_parts _ _ h in rw (line_before l bs p.1, not_feed (nat_eq b 10) p.0) refl

-- ---- records

-- the record that a line is read as
record_read : ProofIsShown → (r : Record) → IsWritten r → IsReadable r → (q : Record) × IsRecord (written_line r) q × IsSame r q
record_read law r w h =
    let shown = law r.proof w.allowed in
    let q : Record = record { canon = r.canon; proof = shown.0 } in
    let same : written_parts r ≡ parts_of q = λ i. record { key = (written_parts r).key; obligation = canon_list r.canon; proof = sym shown.2 i } in
    (q, record { short = h.short; shown = record { form = h.form; proof = shown.1 }; line = subst (λ l. IsLine (written_line r) l) same w.line }, record { canon = refl; proof = shown.3 })

-- a file whose records can be read back is
pub records_read : ProofIsShown → (rs : List Record) → AllByRecursion IsWritten rs → AllByRecursion IsReadable rs → AreReadBack rs (file_of rs)
records_read law [] w h = ([], ([], tt, refl, refl), tt)
records_read law (r ∷ rs) w h =
    let one = record_read law r w.0 h.0 in
    let rest = records_read law rs w.1 h.1 in
    let q = one.0 in
    let all = rest.1 in
    let cut : lines_of (file_of (r ∷ rs)) ≡ written_line r ∷ lines_of (file_of rs) = ap lines_of (append_assoc (written_line r) (10 ∷ []) (file_of rs)) ∙ line_before (written_line r) (file_of rs) w.0.one_line in
    (q ∷ rest.0, subst (λ ls. AreRecords ls (q ∷ rest.0) 0) (sym cut) (Some q ∷ all.0, (one.1, all.1), ap (λ qs. q ∷ qs) all.2, all.3), (one.2, rest.2))
