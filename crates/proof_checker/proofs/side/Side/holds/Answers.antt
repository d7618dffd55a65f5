use Rattle.std.proofs.Common.{[], rules}
use Rattle.core_expr.specs.Nodes.{Node}
use Rattle.proof_checker.proofs.SideLaws.{Has-number, number-Has, node-Has}
use Rattle.proof_checker.proofs.side.Side.holds.Goals as goal

pub returns-in-Some : goal.returns-in-Some
returns-in-Some c = (
  λ h. Has-number c.args.bank.now c.args.self.now c.in-Some.i _ c.in-Some.ensures.some.tree (c.has.ensures.0 h),
  λ h. c.has.ensures.1 (number-Has c.args.bank.now c.args.self.now c.in-Some.i _ c.count-count.ensures.distinct c.requires.formulas c.in-Some.ensures.some.within c.in-Some.ensures.some.tree h),
)

pub returns-in-None : goal.returns-in-None
returns-in-None c =
    let n : Node = record { head = c.args.head; numbers = []; parts = c.args.parts.now } in (
      λ h. search rules,
      λ h. let k = node-Has c.args.bank.now c.args.self.now n c.requires.formulas (c.requires.form, c.requires.below) h in absurd (c.in-None.ensures.none k.0 k.1),
    )
