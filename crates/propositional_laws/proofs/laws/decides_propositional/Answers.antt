use Rattle.propositional_laws.proofs.Numbers.{decides}
use Rattle.propositional_laws.proofs.laws.decides_propositional.Goals as goal

pub returns : goal.returns
returns c = decides c.saturated_falsifies.ensures c.closed_is_valid.ensures c.turns_suffice.ensures
