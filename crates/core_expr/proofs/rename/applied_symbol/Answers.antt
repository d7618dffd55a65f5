use Rattle.std.proofs.Common.{◌≡◌, ◌-◌, suc, sym, ◌∙◌, arith}
use Rattle.core_expr.specs.Rename.{applied_symbol}
use Rattle.core_expr.proofs.RenameLaws.{applied_step, applied_stop, applied_end}
use Rattle.core_expr.proofs.rename.applied_symbol.Goals as goal

pub returns-then-not-is_variable : goal.returns-then-not-is_variable
returns-then-not-is_variable c =
    let f = c.if-left-eq0.false in
    let q : c.loop-at.left ≡ suc (c.loop-at.left - 1) = omega (arith, f) in
    applied_stop c.args.parts (c.loop-at.left - 1) c.loop-at.left c.args.rows.now c.loop-at.at c.index-rows-at.result (applied_symbol c.args.parts c.args.parts c.args.rows.now) c.loop-at-test.true c.index-rows-at.is c.loop-at.invariant q (sym c.is_variable.ensures ∙ c.if-not-is_variable.true)

pub loop-at-preserved : goal.loop-at-preserved
loop-at-preserved c =
    let f = c.if-left-eq0.false in
    let q : c.loop-at.left ≡ suc (c.loop-at.left - 1) = omega (arith, f) in
    applied_step c.args.parts (c.loop-at.left - 1) c.loop-at.left c.args.rows.now c.loop-at.at c.index-rows-at.result (applied_symbol c.args.parts c.args.parts c.args.rows.now) c.loop-at-test.true c.index-rows-at.is c.loop-at.invariant q (sym c.is_variable.ensures ∙ c.if-not-is_variable.false)

pub returns : goal.returns
returns c =
    let a = c.loop-at.auto.at-end in
    let b = c.loop-at-test.false in
    applied_end c.args.parts c.loop-at.left c.args.rows.now c.loop-at.at (applied_symbol c.args.parts c.args.parts c.args.rows.now) (omega (arith, a, b)) c.loop-at.invariant
