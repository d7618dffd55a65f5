use Rattle.std.proofs.Common.{◌≡◌, ◌-◌, suc, arith}
use Rattle.instance_terms.proofs.MetaLaws.{meta_next, meta_last}
use Rattle.instance_terms.proofs.metas.add_metas.Goals as goal

pub loop-left-preserved : goal.loop-left-preserved
loop-left-preserved c =
    let e : c.loop-left.left ≡ suc (c.loop-left.left - 1) = let t = c.loop-left-test.true in omega (arith, t) in
    meta_next c.args.first c.loop-left.left (c.loop-left.left - 1) c.in_ok-meta_at.field-0 c.loop-left.metas.items c.push.new.self.items _ e c.in_ok-meta_at.ensures c.in_ok-push.ensures.items c.loop-left.invariant

pub returns : goal.returns
returns c =
    let e : c.loop-left.left ≡ 0 = let t = c.loop-left-test.false in omega (arith, t) in
    meta_last c.args.first c.loop-left.left c.loop-left.metas.items _ e c.loop-left.invariant
