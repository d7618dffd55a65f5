-- Positions that ranks begin at and move to.
use Rattle.std.proofs.Common.{◌≡◌, ℕ, ◌≤◌, Some, None, List, length, ap, ◌∙◌, subst, arith}
use Rattle.std.specs.Prelude.{Option, IfSome}
use Rattle.std.proofs.lemmas.List.{take_all}
use Rattle.core_expr.specs.Tree.{Tree}
use Rattle.search_definition.specs.Branches.{closing}
use Rattle.search_definition.specs.Rules.{Result}
use Rattle.search_definition.specs.Watches.{NoneBefore}
use Rattle.branch_state.specs.Shown.{Placed}
use Rattle.tableau_search.specs.declared.finder.Found.{Found}
use Rattle.tableau_search.specs.declared.finder.Found.TheVariants.{Alone, Splits}
use Rattle.tableau_search.specs.Entries.{branch_of}
use Rattle.tableau_search.specs.declared.finder.Closing.{Closing as Shutting}
use Rattle.tableau_search.specs.Found.{IsAnswer, IsClosing}
use Rattle.formula_rules.specs.Answers.{GivenBelow}
use Rattle.rank_rules.specs.declared.entry_rank.EntryRank.{EntryRank}
use Rattle.rank_rules.specs.declared.entry_rank.EntryRank.TheVariants.{Plain, Derive, Choice, Split, Extension}
use Rattle.rank_rules.specs.declared.oldest_entry.Fitting.{Fitting}
use Rattle.rank_rules.specs.Ranked.{rule_of, IsFitting, position}
use Rattle.rank_memo.specs.declared.place.Place.TheVariants as place
use Rattle.rank_memo.specs.Looked.{IsRightAt}
use Rattle.equation_ranks.specs.Rewriting.{place_of}
use Rattle.tableau_ranks.specs.Starts.{entry_place}

-- a branch that does not close is looked at to its end
pub shut_end : (ts : List Tree) (es : List Placed) (o : Option Shutting) (n : ℕ) → n ≡ length es → IsClosing ts es o → o ≡ None → IsRightAt ts es place.Closing n
shut_end ts es o n l h e =
    let c : closing (branch_of ts es) ≡ None = subst (IsClosing ts es) e h in
    record { within = omega (arith, l); none = ap (λ xs. closing (branch_of ts xs)) (take_all n es (omega (arith, l))) ∙ c }

-- a position before which no entry fits is right
pub right_at : (r : EntryRank) (ts : List Tree) (es : List Placed) (p : ℕ) → p ≤ length es → NoneBefore (rule_of r (branch_of ts es)) p (branch_of ts es) → IfSome (entry_place r) (λ q. IsRightAt ts es q p)
right_at Plain ts es p l n = record { within = l; none = n }
right_at Derive ts es p l n = tt
right_at Choice ts es p l n = record { within = l; none = n }
right_at Split ts es p l n = record { within = l; none = n }
right_at Extension ts es p l n = record { within = l; none = n }

-- the entry that fits is one of the branch
pub fitting_within : (ts : List Tree) (es : List Placed) (r : Option Result) (x : Option Fitting) → IsFitting ts es r x → position x (length es) ≤ length es
fitting_within ts es r None h = omega arith
fitting_within ts es r (Some x) h = let l = h.within in omega (arith, l)

-- and its numbers are known
pub fitting_below : (ts : List Tree) (es : List Placed) (r : Option Result) (x : Option Fitting) → IsFitting ts es r x → IfSome x (λ y. GivenBelow (length ts) y.given)
fitting_below ts es r None h = tt
fitting_below ts es r (Some x) h = h.below

-- the entry of what was found is one of the branch
pub found_within : (ts : List Tree) (es : List Placed) (r : Option Result) (o : Option Found) → IsAnswer ts es r o → place_of o (length es) ≤ length es
found_within ts es r None h = omega arith
found_within ts es r (Some (Alone u ns)) h = let l = h.1.within in omega (arith, l)
found_within ts es r (Some (Splits u ns ms)) h = let l = h.1.within in omega (arith, l)
