use Rattle.std.proofs.Common.{rules, ap, ◌∙◌}
use Rattle.expression_level.proofs.Uses.{join-next, join-more, none-joined}
use Rattle.expression_level.proofs.weight.join_uses.Goals as goal
use Rattle.expression_level.proofs.weight.join_uses.Goals.{then-index-len, else-index-len+in_ok-push}

pub loop-index-init : goal.loop-index-init
loop-index-init c = none-joined c.args.uses.now.items

pub loop-index-preserved : goal.loop-index-preserved
loop-index-preserved c = elim c.if-index-len.branch [
  | then-index-len w ↦ ap (λ v. v.items) w.uses-is
      ∙ join-next c.args.uses.now.items c.args.others.now c.loop-index.uses.items c.loop-index.index w.index.result.now w.both.result _ c.loop-index.invariant c.loop-index-test.true (search rules) w.index.ensures w.both.ensures
  | else-index-len+in_ok-push w ↦ ap (λ v. v.items) w.uses-is ∙ w.in_ok-push.ensures.items
      ∙ join-more c.args.uses.now.items c.args.others.now c.loop-index.uses.items c.loop-index.index _ c.loop-index.invariant c.loop-index-test.true (search rules)
]
