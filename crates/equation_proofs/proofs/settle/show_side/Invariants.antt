use Rattle.equation_proofs.specs.Passing.{IsPassing}
use Rattle.equation_proofs.proofs.settle.show_side.Given as goal

abbrev pub invariant-loop-formula : goal.invariant-loop-formula
invariant-loop-formula l = IsPassing l.fn.w l.w l.grounds l.formulas l.formula-index
