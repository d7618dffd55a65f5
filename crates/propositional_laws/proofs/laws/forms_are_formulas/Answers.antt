use Rattle.propositional_laws.proofs.Forms.{formed}
use Rattle.propositional_laws.proofs.laws.forms_are_formulas.Goals as goal

pub returns : goal.returns
returns c = formed
