-- Turns by numbers, and the steps of the search's definition that they stand for.
use Rattle.std.specs.Prelude.{ℕ, ◌<◌, List, [], ◌∷◌, map}
use Rattle.core_expr.specs.Tree.{Tree}
use Rattle.term_bank.specs.Banks.{tree_at}
use Rattle.search_definition.specs.Rules.{Sides, Result}
use Rattle.search_definition.specs.Rules.Sides.{Alone, Both}
use Rattle.search_definition.specs.Search.{Move}
use Rattle.search_definition.specs.Search.Move.{Shuts, Applied}
use Rattle.search_trace.specs.declared.turn.Added.{Added}
use Rattle.search_trace.specs.declared.turn.Used.{Used}
use Rattle.search_trace.specs.declared.turn.Turn.{Turn}
use Rattle.search_trace.specs.declared.turn.Turn.TheVariants.{Shut, Alone as One, Split}

-- the formula that is added
abbrev pub added_tree : List Tree → Added → Tree
added_tree ts a = tree_at ts a.formula

-- the formulas that are added
abbrev pub added_trees : List Tree → List Added → List Tree
added_trees ts as' = map (added_tree ts) as'

-- what a rule does, that adds what the sides say
abbrev pub result_of : List Tree → Used → Sides → Result
result_of ts u s = record { entry = u.entry; step = record { rule = u.rule; named = map (tree_at ts) u.named.items; terms = map (tree_at ts) u.terms.items; sides = s } }

-- the step of a turn
abbrev pub move_of : List Tree → Turn → Move
move_of ts (Shut k es next) = Shuts (record { clash = k; entries = map (tree_at ts) es.items }) next
move_of ts (One u fs) = Applied (result_of ts u (Alone (added_trees ts fs.items))) (map (λ a. a.is_new) fs.items) []
move_of ts (Split u fs gs) =
    Applied (result_of ts u (Both (added_trees ts fs.items) (added_trees ts gs.items))) (map (λ a. a.is_new) fs.items) (map (λ a. a.is_new) gs.items)

-- the steps of the turns
abbrev pub moves_of : List Tree → List Turn → List Move
moves_of ts xs = map (move_of ts) xs

-- all these numbers are below n
abbrev pub AreUnder : ℕ → List ℕ → Type 0
AreUnder n [] = Unit {0}
AreUnder n (x ∷ xs) = (x < n) × AreUnder n xs

-- what is added has numbers below n
abbrev pub AddedUnder : ℕ → List Added → Type 0
AddedUnder n [] = Unit {0}
AddedUnder n (a ∷ as') = (a.formula < n) × AddedUnder n as'

abbrev pub UsedUnder : ℕ → Used → Type 0
UsedUnder n u = AreUnder n u.named.items × AreUnder n u.terms.items

-- all numbers of the turn are below n
abbrev pub TurnUnder : ℕ → Turn → Type 0
TurnUnder n (Shut k es next) = AreUnder n es.items
TurnUnder n (One u fs) = UsedUnder n u × AddedUnder n fs.items
TurnUnder n (Split u fs gs) = UsedUnder n u × AddedUnder n fs.items × AddedUnder n gs.items

-- all numbers of the turns are below n
abbrev pub TurnsUnder : ℕ → List Turn → Type 0
TurnsUnder n [] = Unit {0}
TurnsUnder n (x ∷ xs) = TurnUnder n x × TurnsUnder n xs
