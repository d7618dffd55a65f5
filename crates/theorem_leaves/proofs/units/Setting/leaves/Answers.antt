use Rattle.std.proofs.Common.{ap, ◌∙◌}
use Rattle.std.specs.Prelude.{None}
use Rattle.proof_contexts.specs.Contexts.{with_items}
use Rattle.known_facts.specs.Shown.{items_of, context_of}
use Rattle.theorem_leaves.proofs.Theorems.{again}
use Rattle.theorem_leaves.proofs.units.Setting.leaves.Goals as goal

pub returns-clause-kept : goal.returns-clause-kept
returns-clause-kept c =
    let before = context_of c.args.context.now in
    again (items_of c.args.statement.now.items) before (context_of c.tell_items.new.self) (context_of c.replace_goal-before.new.self) (context_of c.proof.new.context) (context_of c.leave.new.self)
    (context_of c.replace_goal.new.self) _ _ _
    (c.in_ok-tell_items.ensures ∙ ap (λ l. with_items None (items_of l) before) c.as_slice.ensures)
    c.replace_goal-before.ensures.goal c.replace_goal-before.ensures.before c.in_ok-proof.ensures.kept c.mark-mark.ensures c.leave.ensures c.replace_goal.ensures.goal
