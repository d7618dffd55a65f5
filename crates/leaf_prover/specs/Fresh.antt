-- The unused symbols, as the search has them.
use Rattle.search_definition.specs.Instances.{Fresh}
use Rattle.leaf_prover.specs.declared.unused.Unused.{Unused}

abbrev pub fresh_of : Unused → Fresh
fresh_of u = record { spare = u.spare; metas = u.metas }
