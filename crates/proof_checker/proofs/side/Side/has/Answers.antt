use Rattle.std.proofs.Common.{refl}
use Rattle.proof_checker.proofs.SideLaws.{Has-number, number-Has}
use Rattle.proof_checker.proofs.side.Side.has.Goals as goal

pub returns : goal.returns
returns c = (
  λ h. Has-number c.args.bank.now c.args.self.now c.args.a _ refl (c.has.ensures.0 h),
  λ h. c.has.ensures.1 (number-Has c.args.bank.now c.args.self.now c.args.a _ c.count-count.ensures.distinct c.requires.formulas c.requires.within refl h),
)
