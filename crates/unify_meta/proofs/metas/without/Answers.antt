use Rattle.std.proofs.Common.{get_or, refl, ap, ◌∙◌}
use Rattle.unify_meta.specs.Metas.{symbols}
use Rattle.unify_meta.proofs.RoundLaws.{without_kept, without_dropped}
use Rattle.unify_meta.proofs.metas.without.Goals as goal
use Rattle.unify_meta.proofs.metas.without.Goals.{then-meta-number+in_ok-push, else-meta-number}

pub loop-meta-preserved : goal.loop-meta-preserved
loop-meta-preserved c =
    let k = c.loop-meta.meta-index in
    let ms = c.args.metas.now in
    let x = get_or ms k 0 in
    elim c.if-meta-number.branch [
      | then-meta-number+in_ok-push w ↦ ap (λ v. symbols v.items) w.others-is ∙ without_kept c.args.number x ms c.loop-meta.others.items w.push.new.self.items k c.loop-meta-test.true refl w.if-meta-number.true w.in_ok-push.ensures.items c.loop-meta.invariant
      | else-meta-number w ↦ ap (λ v. symbols v.items) w.others-is ∙ without_dropped c.args.number x ms c.loop-meta.others.items k c.loop-meta-test.true refl w.if-meta-number.false c.loop-meta.invariant
    ]
