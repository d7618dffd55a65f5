-- The formulas that a turn newly added, by their numbers.
use Rattle.std.specs.Prelude.{ℕ, ◌-◌, Bool, true, false, Option, Some, None, List, [], ◌∷◌, slice_get}
use Rattle.search_trace.specs.declared.turn.Added.{Added}
use Rattle.search_trace.specs.declared.turn.Turn.{Turn}
use Rattle.search_trace.specs.declared.turn.Turn.TheVariants.{Shut, Alone, Split}

-- the number before the others, where it is new
abbrev pub news_with : Bool → ℕ → List ℕ → List ℕ
news_with true n ns = n ∷ ns
news_with false n ns = ns

-- those that are new
abbrev pub news_of : List Added → List ℕ
news_of [] = []
news_of (a ∷ as') = news_with a.is_new a.formula (news_of as')

-- those of a split's second side
abbrev pub second_of : Option Turn → List ℕ
second_of None = []
second_of (Some (Shut k es next)) = []
second_of (Some (Alone u fs)) = []
second_of (Some (Split u fs gs)) = news_of gs.items

-- those of the turn n, from 1
abbrev pub second_at : List Turn → ℕ → List ℕ
second_at ts n = second_of (slice_get ts (n - 1))
