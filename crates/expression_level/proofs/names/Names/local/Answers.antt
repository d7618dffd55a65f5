use Rattle.std.proofs.Common.{arith, ap, ◌-◌}
use Rattle.std.proofs.lemmas.Bool.Decides.{nat_tests}
use Rattle.expression_level.proofs.Locals.{local-next}
use Rattle.expression_level.proofs.names.Names.local.Goals as goal

pub returns-then-local-number : goal.returns-then-local-number
returns-then-local-number c = let e = c.loop-left-test.true in
    let s = local-next c.args.self.now.env.locals _ c.loop-left.left (c.loop-left.left - 1) c.args.number c.index-local.result.now (ap (λ s. s.env.locals) c.self.view_is) c.index-local.ensures (omega (arith, e)) c.loop-left.invariant.within in
    grind (arith, nat_tests, s, c.loop-left.invariant.same, c.if-local-number.true)

pub loop-left-preserved : goal.loop-left-preserved
loop-left-preserved c = let e = c.loop-left-test.true in let f = c.loop-left.invariant.within in
    let s = local-next c.args.self.now.env.locals _ c.loop-left.left (c.loop-left.left - 1) c.args.number c.index-local.result.now (ap (λ s. s.env.locals) c.self.view_is) c.index-local.ensures (omega (arith, e)) f in
    record { same = grind (arith, nat_tests, s, c.loop-left.invariant.same, c.if-local-number.false); within = omega (arith, f) }
