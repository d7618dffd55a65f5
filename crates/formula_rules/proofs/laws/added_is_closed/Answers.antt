use Rattle.formula_rules.proofs.Closed as closed
use Rattle.formula_rules.proofs.laws.added_is_closed.Goals as goal

pub returns : goal.returns
returns c = closed.added_is_closed
