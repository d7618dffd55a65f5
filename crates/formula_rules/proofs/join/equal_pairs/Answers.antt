use Rattle.std.proofs.Common.{◌≡◌, ◌<◌, ◌++◌, ◌∷◌, [], rules, arith, length}
use Rattle.term_bank.proofs.InstLaws.{Extends-trans}
use Rattle.formula_rules.proofs.Listing.{pairs_step, item_below}
use Rattle.formula_rules.proofs.join.equal_pairs.Goals as goal

pub make-requires-clause-below : goal.make-requires-clause-below
make-requires-clause-below c =
    let l = c.loop-i-test.true in
    let m : c.loop-i.i < length c.args.right.now = omega (arith, c.requires.length) in
    (item_below c.args.bank.now c.loop-i.bank c.args.left.now c.loop-i.i c.loop-i.invariant.extends c.requires.left l, (item_below c.args.bank.now c.loop-i.bank c.args.right.now c.loop-i.i c.loop-i.invariant.extends c.requires.right m, tt))

pub returns-in_err-push-clause-extends : goal.returns-in_err-push-clause-extends
returns-in_err-push-clause-extends c = Extends-trans c.args.bank.now c.loop-i.bank c.make.new.bank c.loop-i.invariant.extends c.make.ensures.extends

pub loop-i-preserved : goal.loop-i-preserved
loop-i-preserved c =
    let l = c.loop-i-test.true in
    let m : c.loop-i.i < length c.args.right.now = omega (arith, c.requires.length) in
    let e : c.push.new.self.items ≡ c.loop-i.equations.items ++ c.in_ok-equation.equation ∷ [] = search rules in
    record {
      extends = Extends-trans c.args.bank.now c.loop-i.bank c.make.new.bank c.loop-i.invariant.extends c.make.ensures.extends;
      distinct = c.make.ensures.distinct;
      listing = pairs_step c.args.bank.now c.loop-i.bank c.make.new.bank c.loop-i.i c.in_ok-equation.equation c.args.left.now c.args.right.now c.loop-i.equations.items c.push.new.self.items _ c.loop-i.invariant.extends c.requires.left c.requires.right l m c.make.ensures.extends c.loop-i.invariant.listing c.in_ok-equation.ensures.ok e;
    }
