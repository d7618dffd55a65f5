use Rattle.std.proofs.Common.{refl}
use Rattle.entry_positions.proofs.laws.formula_positional.Goals as goal

pub returns : goal.returns
returns c rule = (λ b f g h. h, λ s r b i g. refl)
