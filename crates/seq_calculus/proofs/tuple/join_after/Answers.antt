use Rattle.std.proofs.Common.{[], ap, ◌∙◌}
use Rattle.core_expr.specs.Tree.{Tree}
use Rattle.core_expr.specs.Tree.Tree.{node}
use Rattle.core_expr.specs.Tree.Parts.{end, part}
use Rattle.seq_calculus.proofs.Listed.{join_step}
use Rattle.seq_calculus.proofs.tuple.join_after.Goals as goal

pub loop-item-preserved : goal.loop-item-preserved
loop-item-preserved c =
    join_step (λ (a : Tree) (b : Tree). node c.args.connective [] (part a (part b end))) c.args.first.now c.args.rest.now c.loop-item.item-index c.item-item.result c.loop-item.joined c.in_ok-joined-2.joined c.loop-item-test.true c.item-item.is c.loop-item.invariant
    (c.in_ok-joined-2.ensures ∙ ap (λ (b : Tree). node c.args.connective [] (part c.loop-item.joined (part b end))) c.in_ok-copy.ensures)
