-- Older entries that a formula clashes with, and closings by numbers.
use Rattle.std.specs.Prelude.{◌≡◌, ℕ, ◌<◌, Bool, true, false, nat_lt, Option, Some, None, List, [], ◌∷◌, length, take}
use Rattle.core_expr.specs.Tree.{Tree}
use Rattle.term_bank.specs.Banks.{tree_at}
use Rattle.search_definition.specs.declared.rule.Clash.{Clash}
use Rattle.search_definition.specs.Terms.{if_so, either}
use Rattle.search_definition.specs.Branches.{Closing, formulas}
use Rattle.formula_rules.specs.Answers.{names}
use Rattle.branch_state.specs.Shown.{Placed, placed_at}
use Rattle.search_trace.specs.Traces.{AreUnder}
use Rattle.tableau_search.specs.declared.finder.Closing.{Closing as Shutting}
use Rattle.tableau_search.specs.Entries.{branch_of}
use Rattle.tableau_search.specs.Found.{closing_of}

-- the number of the formula of the k-th entry
abbrev pub number_at : List Placed → ℕ → ℕ
number_at es k = (placed_at es k).formula

-- the formula of the k-th entry is the one that is named
abbrev pub is_named : Option ℕ → List Placed → ℕ → Bool
is_named o es k = names o (number_at es k)

-- the formula of the k-th entry is one of the two
abbrev pub is_either : Option ℕ → Option ℕ → List Placed → ℕ → Bool
is_either a b es k = either (is_named a es k) (is_named b es k)

-- the answer is the first place below i where p holds
abbrev pub IsOldest : (ℕ → Bool) → ℕ → Option ℕ → Type 0
IsOldest p i None = (k : ℕ) → k < i → p k ≡ false
IsOldest p i (Some j) = (j < i) × (p j ≡ true) × ((k : ℕ) → k < j → p k ≡ false)

-- the lesser of two places, if there are any
abbrev pub older_of : Option ℕ → Option ℕ → Option ℕ
older_of None b = b
older_of (Some i) None = Some i
older_of (Some i) (Some j) = Some (if_so (nat_lt i j) i j)

-- the tree of the formula of the i-th entry
abbrev pub formula_at : List Tree → List Placed → ℕ → Tree
formula_at ts es i = tree_at ts (number_at es i)

-- the formulas of the entries older than the i-th
abbrev pub older : List Tree → List Placed → ℕ → List Tree
older ts es i = formulas (branch_of ts (take i es))

-- the closing by the formula f and that of the entry at a place, where there is a place
abbrev pub paired : Clash → List Tree → List Placed → ℕ → Option ℕ → Option Closing
paired k ts es f None = None
paired k ts es f (Some j) = Some (record { clash = k; entries = tree_at ts f ∷ formula_at ts es j ∷ [] })

-- a closing by numbers exactly where the definition has one, and it is that one
abbrev pub HasClosing : List Tree → Option Closing → Option Shutting → Type 0
HasClosing ts c None = c ≡ None
HasClosing ts c (Some s) = (c ≡ Some (closing_of ts s)) × AreUnder (length ts) s.entries.items
