use Rattle.leaf_prover.proofs.Meant.{falsified, valid}
use Rattle.leaf_prover.proofs.laws.values_are_right.Goals as goal

pub returns-clause-valid : goal.returns-clause-valid
returns-clause-valid c = valid c.forms_are_formulas.ensures c.closed_is_valid.ensures

pub returns-clause-falsified : goal.returns-clause-falsified
returns-clause-falsified c = falsified c.values_falsify.ensures
