-- What the code keeps while it goes through the theorems, as the definitions see it.
use Rattle.std.specs.Prelude.{ℕ, Bool, List, [], ◌∷◌, ◌++◌, Option, Some, None, fold, nat_eq, nat_le, if◌then◌else◌, codes}
use Rattle.std.specs.Borrow.{Bor}
use Rattle.indexmap.specs.IndexMap.{get}
use Rattle.indexmap.specs.IndexSet.{contains}
use Rattle.proof_contexts.specs.Statuses.{Verdict, Status, code, is_proved}
use Rattle.proof_contexts.specs.Statuses.Verdict.{Temporal, Memory, Unproved, Missing, Omitted, Proved}
use Rattle.proof_contexts.specs.Statuses.Status.{By_leaf, Conditional}
use Rattle.status_report.specs.declared.judge.Verdict.{Verdict as FoundVerdict}
use Rattle.status_report.specs.declared.judge.Verdict.TheVariants as verdict
use Rattle.status_report.specs.declared.judge.Status.{Status as FoundStatus}
use Rattle.status_report.specs.declared.judge.Status.TheVariants as status
use Rattle.status_report.specs.declared.seen.Seen.{Seen as KeptSeen}
use Rattle.status_report.specs.declared.tell.Told.{Told as KeptTold}
use Rattle.status_report.specs.declared.table.TheoremIn.{TheoremIn}
use Rattle.status_report.specs.declared.table.ModuleIn.{ModuleIn}
use Rattle.status_report.specs.declared.table.Style.{Style}
use Rattle.status_report.specs.Texts.{Bytes, line}
use Rattle.status_report.specs.Statuses.{Seen, status_in, see}
use Rattle.status_report.specs.Report.{theorem_lines, in_style}

abbrev pub verdict_in : FoundVerdict → Verdict
verdict_in verdict.Temporal = Temporal
verdict_in verdict.Memory = Memory
verdict_in verdict.Unproved = Unproved
verdict_in verdict.Missing = Missing
verdict_in verdict.Omitted = Omitted
verdict_in verdict.Proved = Proved

-- the one of two verdicts that counts
abbrev pub worse : Verdict → Verdict → Verdict
worse a b = if nat_le (code a) (code b) then a else b

abbrev pub status_of : FoundStatus → Status
status_of (status.Leaf w) = By_leaf (verdict_in w)
status_of (status.Conditional k) = Conditional k

-- the status of a proved theorem whose first cited theorem that is not proved is this
abbrev pub by_first : Option ℕ → Status
by_first None = By_leaf Proved
by_first (Some k) = Conditional k

-- the name that is found for a key; `-` where none is
abbrev pub name_found : Option (Bor Bytes) → Bytes
name_found None = codes "-"
name_found (Some name) = name.now

abbrev pub seen_of : KeptSeen → Seen
seen_of s = record { done = contains nat_eq s.done; name = λ k. name_found (get nat_eq s.names k) }

-- what is known of the theorems so far, the text, and for each theorem whether it is reported proved
pub record Told : Type 0 where
  pub seen : Seen
  pub text : Bytes
  pub proved : List Bool

abbrev pub told_of : KeptTold → Told
told_of t = record { seen = seen_of t.seen; text = t.text.items; proved = t.proved.items }

abbrev pub tell : Style → Told → TheoremIn → Told
tell style s t = record { seen = see s.seen t; text = s.text ++ in_style style (theorem_lines s.seen t); proved = s.proved ++ is_proved (status_in s.seen t) ∷ [] }

abbrev pub with_text : Bytes → Told → Told
with_text more s = record { seen = s.seen; text = s.text ++ more; proved = s.proved }

abbrev pub tell_module : Style → Told → ModuleIn → Told
tell_module style s m = fold (tell style) (with_text (in_style style (line (codes "module " ++ m.name))) s) m.theorems
