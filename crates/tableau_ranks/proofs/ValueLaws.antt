-- Positions of the ranks that look at values.
use Rattle.std.proofs.Common.{ℕ, ◌≤◌, Some, None, List, length, arith}
use Rattle.std.specs.Prelude.{Option, IfSome}
use Rattle.core_expr.specs.Tree.{Tree}
use Rattle.search_definition.specs.Rules.{Result}
use Rattle.search_definition.specs.Watches.{NoneBefore}
use Rattle.branch_state.specs.Shown.{Placed}
use Rattle.tableau_search.specs.declared.finder.Found.{Found}
use Rattle.tableau_search.specs.declared.finder.Found.TheVariants.{Alone, Splits}
use Rattle.tableau_search.specs.Entries.{branch_of}
use Rattle.tableau_search.specs.Found.{IsAnswer}
use Rattle.value_ranks.specs.declared.oldest_entry.ValueRank.{ValueRank}
use Rattle.value_ranks.specs.declared.oldest_entry.ValueRank.TheVariants.{Settle, TermSplit, TakeUp}
use Rattle.value_ranks.specs.Ranked.{rule_of, position}
use Rattle.rank_memo.specs.Looked.{IsRightAt}
use Rattle.tableau_ranks.specs.Starts.{value_place}

-- a position before which no entry fits is right
pub right_by : (r : ValueRank) (ts : List Tree) (es : List Placed) (p : ℕ) → p ≤ length es → NoneBefore (rule_of r (branch_of ts es)) p (branch_of ts es) → IfSome (value_place r) (λ q. IsRightAt ts es q p)
right_by Settle ts es p l n = tt
right_by TermSplit ts es p l n = record { within = l; none = n }
right_by TakeUp ts es p l n = record { within = l; none = n }

-- the entry that fits is one of the branch
pub position_within : (ts : List Tree) (es : List Placed) (r : Option Result) (o : Option Found) → IsAnswer ts es r o → position o (length es) ≤ length es
position_within ts es r None h = omega arith
position_within ts es r (Some (Alone u ns)) h = let l = h.1.within in omega (arith, l)
position_within ts es r (Some (Splits u ns ms)) h = let l = h.1.within in omega (arith, l)
