-- What units add to what is known, as the definitions see it.
use Rattle.std.specs.Prelude.{List, [], ◌∷◌, Option, Some, None}
use Rattle.proof_contexts.specs.Theorems as contexts
use Rattle.theorem_leaves.specs.declared.unit.Known.{Known}
use Rattle.theorem_leaves.specs.declared.unit.Known.TheVariants.{Assumption, Earlier}

abbrev pub known_of : Known → contexts.Known
known_of (Assumption l f) = contexts.Known.Assumption l f
known_of (Earlier k f) = contexts.Known.Earlier k f

-- a unit adds one fact or none
abbrev pub adds_of : Option Known → List contexts.Known
adds_of None = []
adds_of (Some k) = known_of k ∷ []
