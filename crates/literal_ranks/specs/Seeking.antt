-- What is sought among the closed subterms of a literal.
use Rattle.std.specs.Prelude.{Option}
use Rattle.core_expr.specs.Tree.{Tree}
use Rattle.search_definition.specs.Branches.{Branch}
use Rattle.search_definition.specs.Splits.{untaken, split_term}
use Rattle.literal_ranks.specs.declared.sought.Sought.{Sought}
use Rattle.literal_ranks.specs.declared.sought.Sought.TheVariants.{Choice, Division}

-- the rank's test of a closed subterm
abbrev pub sought_at : Sought → Branch → Tree → Option Tree
sought_at Choice b = untaken b
sought_at Division b = split_term b
