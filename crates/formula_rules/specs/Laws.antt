-- What is proved of the rules that look at a formula alone. The statement is the contract of a function of src/laws.rt.
use Rattle.std.specs.Prelude.{◌≡◌, Option, Some}
use Rattle.core_expr.specs.Tree.{Tree}
use Rattle.seq_calculus.specs.Calculus.{IsClosed}
use Rattle.search_definition.specs.declared.rule.Rank.{Rank}
use Rattle.search_definition.specs.Branches.{Branch}
use Rattle.search_definition.specs.Rules.{Step, oldest}
use Rattle.search_definition.specs.Instances.{Fresh}
use Rattle.search_definition.specs.Search.{by_rank}
use Rattle.search_definition.specs.Watches.{ClosedSides}

-- the rank is that of a rule that looks at a formula alone
abbrev pub IsRuleOf : Rank → (Tree → Option Step) → Type 0
IsRuleOf k rule = (w : Fresh) (b : Branch) → by_rank w b k ≡ oldest rule 0 b

-- what such a rule adds to a closed formula is closed
abbrev pub AddedIsClosed : Type 0
AddedIsClosed = (k : Rank) (rule : Tree → Option Step) → IsRuleOf k rule → (f : Tree) (s : Step) → IsClosed f → rule f ≡ Some s → ClosedSides s.sides
