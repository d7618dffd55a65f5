use Rattle.std.proofs.Common.{◌≡◌, ℕ, ◌++◌, Option, Some, None, refl, sym, ap, ◌∙◌, append-nil}
use Rattle.std.specs.Option.{option_to_list}
use Rattle.tla_ast.specs.declared.tree.Def.{out-Def}
use Rattle.plain_syntax.specs.Syntax.{each_def}
use Rattle.usable_facts.specs.Proofs as spec
use Rattle.theorem_leaves.specs.Homes.{means, entries, no_steps}
use Rattle.theorem_leaves.proofs.Walks.{next}
use Rattle.theorem_leaves.proofs.Moves.{defined_first}
use Rattle.theorem_leaves.proofs.home.Home.defined.Goals as goal
use Rattle.theorem_leaves.proofs.home.Home.defined.Goals.{in-Some+in_ok-push, in_default}

no-number : (o : Option ℕ) → ((n : ℕ) → o ≡ Some n → ⊥) → o ≡ None
no-number None h = refl
no-number (Some n) h = absurd (h n refl)

pub loop-def-preserved : goal.loop-def-preserved
loop-def-preserved c =
    let h = c.args.self.now in
    let own : c.match-meaning.found ≡ c.loop-def.found ++ option_to_list (means h (out-Def c.def-item.result).place) =
    elim c.match-meaning.branch [
      | in-Some+in_ok-push w ↦ w.found-is ∙ w.in_ok-push.ensures.ok ∙ ap (λ o. c.loop-def.found ++ option_to_list o) w.in-Some.ensures
      | in_default w ↦ w.found-is ∙ sym (append-nil c.loop-def.found) ∙ ap (λ o. c.loop-def.found ++ option_to_list o) (sym (no-number c.meaning.result w.in_default.not-Some) ∙ c.meaning.ensures)
    ] in
    next (λ ds. spec.defined (means h) no_steps (entries h) (each_def ds)) (λ d. option_to_list (means h (out-Def d).place)) (defined_first h no_steps) c.args.defs.now c.loop-def.def-index c.def-item.result
    (spec.defined (means h) no_steps (entries h) (each_def c.args.defs.now)) c.loop-def.found c.match-meaning.found
    c.loop-def-test.true c.def-item.is own c.loop-def.invariant
