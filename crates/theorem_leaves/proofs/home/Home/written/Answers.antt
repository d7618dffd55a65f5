use Rattle.std.proofs.Common.{◌≡◌, [], ◌∷◌, map, sym, ap, ◌∙◌}
use Rattle.symbol_table.specs.Symbols.{symbol_at}
use Rattle.plain_syntax.specs.Syntax.{move_of, each_group}
use Rattle.proof_contexts.specs.Steps.Step.{Pick}
use Rattle.known_facts.specs.Shown.{items_of}
use Rattle.proof_leaves.specs.Shown.{step_of}
use Rattle.usable_facts.specs.Proofs as spec
use Rattle.theorem_leaves.specs.Homes.{means, entries}
use Rattle.theorem_leaves.specs.Moves as moves
use Rattle.theorem_leaves.proofs.Moves.{takes_are, choices_are}
use Rattle.theorem_leaves.proofs.home.Home.written.Goals as goal

pub returns-in_ok-takes-in-Take-clause-acts : goal.returns-in_ok-takes-in-Take-clause-acts
returns-in_ok-takes-in-Take-clause-acts c l q =
    let h = c.args.self.now in
    let cite = symbol_at c.args.outline.now in
    ap (map (step_of l)) (c.in_ok-takes-in-Take.ensures ∙ ap (moves.takes h) c.as_slice.ensures)
    ∙ takes_are h cite l c.in-Take.groups
    ∙ ap (λ k. spec.acts (means h) cite (entries h) l (move_of k) q) (sym c.in-Take.is)

pub returns-in_ok-core-in-Pick-clause-acts : goal.returns-in_ok-core-in-Pick-clause-acts
returns-in_ok-core-in-Pick-clause-acts c l q =
    let h = c.args.self.now in
    let cite = symbol_at c.args.outline.now in
    let chosen : items_of c.in_ok-items-in-Pick.items ≡ spec.chosen (means h) cite (entries h) (each_group c.in-Pick.groups) =
    ap items_of (c.in_ok-items-in-Pick.ensures ∙ ap (moves.choices h) c.as_slice-in-Pick.ensures) ∙ choices_are h cite c.in-Pick.groups in
    (λ i. Pick l (chosen i) (c.in_ok-core-in-Pick.ensures i) q ∷ [])
    ∙ ap (λ k. spec.acts (means h) cite (entries h) l (move_of k) q) (sym c.in-Pick.is)
