use Rattle.std.proofs.Common.{arith, rules, refl}
use Rattle.core_expr.specs.Heads.{kind_at, kind_table}
use Rattle.term_bank.proofs.InstLaws.{Extends-trans}
use Rattle.proof_checker.proofs.TupleLaws.{below_later, equation_step, equations_end}
use Rattle.proof_checker.proofs.tuple.equations.Goals as goal

pub make-requires-clause-below : goal.make-requires-clause-below
make-requires-clause-below c = (
  below_later c.args.bank.now c.loop-i.bank c.args.left.now c.loop-i.i _ c.loop-i.invariant.1 c.requires.left c.loop-i-test.true refl,
  (below_later c.args.bank.now c.loop-i.bank c.args.right.now c.loop-i.i _ c.loop-i.invariant.1 c.requires.right (omega (arith, c.loop-i-test.true, c.requires.lengths)) refl, tt),
)

pub loop-i-preserved : goal.loop-i-preserved
unfolding kind_at kind_table
loop-i-preserved c = (
  equation_step c.args.bank.now c.loop-i.bank c.make.new.self c.args.left.now c.args.right.now c.loop-i.out.items c.push.new.self.items c.loop-i.i _ _ c.in_ok-equation.equation c.requires.lengths c.loop-i-test.true c.requires.left c.requires.right c.loop-i.invariant.1 c.make.ensures.extends refl refl c.in_ok-equation.ensures.ok (search rules) c.loop-i.invariant.0,
  Extends-trans c.args.bank.now c.loop-i.bank c.make.new.self c.loop-i.invariant.1 c.make.ensures.extends,
)

pub returns-clause-ok : goal.returns-clause-ok
returns-clause-ok c = equations_end c.args.bank.now c.loop-i.bank c.args.left.now c.args.right.now c.loop-i.out.items c.loop-i.i c.requires.lengths c.loop-i-test.false c.loop-i.invariant.0
