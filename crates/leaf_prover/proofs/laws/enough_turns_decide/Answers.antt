use Rattle.leaf_prover.proofs.Meant.{enough_decide, few_decide}
use Rattle.leaf_prover.proofs.laws.enough_turns_decide.Goals as goal

pub returns-clause-enough : goal.returns-clause-enough
returns-clause-enough c = enough_decide c.forms_are_formulas.ensures c.turns_suffice.ensures c.decides_propositional.ensures

pub returns-clause-few : goal.returns-clause-few
returns-clause-few c = few_decide c.forms_are_formulas.ensures c.turns_suffice.ensures c.decides_propositional.ensures c.few_connectives.ensures
