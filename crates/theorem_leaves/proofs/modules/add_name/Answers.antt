use Rattle.std.proofs.Common.{◌∷◌, ◌++◌, [], ap, ◌∙◌}
use Rattle.usable_facts.specs.Theorems.{is_reached}
use Rattle.theorem_leaves.proofs.Reached.{name-behind}
use Rattle.theorem_leaves.proofs.modules.add_name.Goals as goal

pub returns-in_ok-push : goal.returns-in_ok-push
returns-in_ok-push c = λ w.
    ap (λ l. is_reached l w) (c.in_ok-push.ensures.ok ∙ ap (λ t. c.args.names.now ++ t ∷ []) c.in_ok-of.ensures) ∙ name-behind c.args.names.now c.args.name.now w
