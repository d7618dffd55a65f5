-- The leaves of all theorems of resolved modules have canonical forms that the search can take.
use Rattle.std.specs.Prelude.{ℕ, Bool, true, List, [], ◌∷◌, ◌++◌}
use Rattle.std.proofs.Common.{sym, subst}
use Rattle.obligation.specs.declared.obligation.Definition.{Definition}
use Rattle.proof_contexts.specs.Theorems.{Theorem}
use Rattle.usable_facts.specs.Definitions.{definitions_of}
use Rattle.usable_facts.specs.Theorems.{all_theorems, is_theorem_of}
use Rattle.theorem_leaves.specs.declared.chapter.TheoremLeaves.{TheoremLeaves}
use Rattle.theorem_leaves.specs.declared.chapter.Chapter.{Chapter}
use Rattle.theorem_leaves.specs.Chapters.{AreReports, reports_in, chapters_of}
use Rattle.theorem_leaves.proofs.Reports.{chapters_report}
use Rattle.proof_assembly.specs.Ranks.{rank}
use Rattle.proof_assembly.proofs.Units.{AllRight}
use Rattle.proof_assembly.proofs.Modules.{all_right}
use Rattle.leaf_forms.specs.Leaves.{OfLeaves, OfTheorems, OfChapters}
use Rattle.leaf_forms.specs.Laws.{IsForm, LeavesAreForms}
use Rattle.leaf_forms.proofs.Steps.{theorem_forms}

theorems_left : (xs ys : List TheoremLeaves) → OfTheorems IsForm (xs ++ ys) → OfTheorems IsForm xs
theorems_left [] ys h = tt
theorems_left (x ∷ xs) ys h = (h.0, theorems_left xs ys h.1)

theorems_right : (xs ys : List TheoremLeaves) → OfTheorems IsForm (xs ++ ys) → OfTheorems IsForm ys
theorems_right [] ys h = h
theorems_right (x ∷ xs) ys h = theorems_right xs ys h.1

chapters_forms : (cs : List Chapter) → OfTheorems IsForm (reports_in cs) → OfChapters IsForm cs
chapters_forms [] h = tt
chapters_forms (c ∷ cs) h =
    (theorems_left c.theorems (reports_in cs) h, chapters_forms cs (theorems_right c.theorems (reports_in cs) h))

-- what is told of right theorems
reports_forms : (table : List Definition) (is_theorem : ℕ → Bool) (rs : List TheoremLeaves) (xs : List Theorem) → AreReports table is_theorem rs xs → AllRight table xs → OfTheorems IsForm rs
reports_forms table is_theorem [] xs h r = tt
reports_forms table is_theorem (t ∷ rs) [] h r = absurd h
reports_forms table is_theorem (t ∷ rs) (x ∷ xs) h r = (
  subst (OfLeaves IsForm) (sym h.0.leaves) (theorem_forms rank table (λ _. true) r.0.0 x r.0.1),
  reports_forms table is_theorem rs xs h.1 r.1,
)

pub leaves_are_forms : LeavesAreForms
leaves_are_forms ms t h d =
    chapters_forms (chapters_of ms t)
    (reports_forms (definitions_of ms t) (is_theorem_of ms t) (reports_in (chapters_of ms t)) (all_theorems ms t) (chapters_report ms t) (all_right ms t h d).right)
