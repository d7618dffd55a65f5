use Rattle.std.proofs.Common.{◌-◌, subst, sym, arith}
use Rattle.core_expr.specs.Places.{subtree}
use Rattle.canonical_form.specs.Gathering.{AreNodes}
use Rattle.canonical_form.proofs.Gathering.{part-waits, nodes-last}
use Rattle.canonical_form.proofs.gather.wait_for_parts.Goals as goal

pub loop-k-preserved : goal.loop-k-preserved
loop-k-preserved c =
    let t = c.loop-k-test.true in
    let n = c.parts-k.ensures.tree in
    record {
      waiting =
          part-waits c.args.e.now (subtree c.args.e.now c.args.i) c.part.result (c.loop-k.k - 1) c.loop-k.k c.args.places.now.items c.loop-k.places.items c.push.new.self.items
          (omega (arith, t)) (omega (arith, t, n, c.loop-k.auto.k)) c.part.ensures.tree c.in_ok-push.ensures.items c.loop-k.invariant.waiting;
      within = λ h. subst (AreNodes c.args.e.now) (sym c.in_ok-push.ensures.items) (nodes-last c.args.e.now c.loop-k.places.items c.part.result (c.loop-k.invariant.within h) (omega (arith, c.part.ensures.before, c.requires)));
    }
