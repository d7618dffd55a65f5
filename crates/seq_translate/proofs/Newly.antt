-- What is new, by numbers and as formulas.
use Rattle.std.specs.Prelude.{◌≡◌, ℕ, zero, suc, ◌-◌, ◌<◌, Bool, true, false, List, [], ◌∷◌, map, slice_get}
use Rattle.std.proofs.Common.{get_or, refl, ap}
use Rattle.core_expr.specs.Tree.{Tree, true_}
use Rattle.core_expr.specs.Nodes.{AreBelow, picked}
use Rattle.search_definition.specs.Terms.{if_so}
use Rattle.search_trace.specs.declared.turn.Added.{Added}
use Rattle.search_trace.specs.declared.turn.Turn.{Turn}
use Rattle.search_trace.specs.declared.turn.Turn.TheVariants.{Shut, Alone, Split}
use Rattle.search_trace.specs.Traces.{added_trees, moves_of, AddedUnder, TurnsUnder, AreUnder}
use Rattle.proof_trees.specs.Machine.{picks, no_move, second_news, move_at}
use Rattle.seq_translate.specs.States.{flags}
use Rattle.seq_translate.specs.News.{news_with, news_of, second_of, second_at}

pub news-picks : (ts : List Tree) (as' : List Added) → picked ts (news_of as') ≡ picks (added_trees ts as') (flags as')
news-picks ts [] = refl
news-picks ts (a ∷ as') = go a.is_new (news-picks ts as')
  where
    go : (x : Bool) → picked ts (news_of as') ≡ picks (added_trees ts as') (flags as') → picked ts (news_with x a.formula (news_of as')) ≡ if_so x (get_or ts a.formula true_ ∷ picks (added_trees ts as') (flags as')) (picks (added_trees ts as') (flags as'))
    go true e = ap (λ l. get_or ts a.formula true_ ∷ l) e
    go false e = e

pub news-below : (n : ℕ) (as' : List Added) → AddedUnder n as' → AreBelow n (news_of as')
news-below n [] h = tt
news-below n (a ∷ as') h = go a.is_new h.0 (news-below n as' h.1)
  where
    go : (x : Bool) → a.formula < n → AreBelow n (news_of as') → AreBelow n (news_with x a.formula (news_of as'))
    go true l k = (l, k)
    go false l k = k

pub under_below : (n : ℕ) (is : List ℕ) → AreUnder n is → AreBelow n is
under_below n [] h = tt
under_below n (i ∷ is) h = (h.0, under_below n is h.1)

pub map-picked : (ts : List Tree) (is : List ℕ) → picked ts is ≡ map (λ i. get_or ts i true_) is
map-picked ts [] = refl
map-picked ts (i ∷ is) = ap (λ l. get_or ts i true_ ∷ l) (map-picked ts is)

-- what a split newly added on its second side
second-at : (ts : List Tree) (turns : List Turn) (k : ℕ) → picked ts (second_of (slice_get turns k)) ≡ second_news (get_or (moves_of ts turns) k no_move)
second-at ts [] k = refl
second-at ts (Shut c es next ∷ turns) zero = refl
second-at ts (Alone u fs ∷ turns) zero = refl
second-at ts (Split u fs gs ∷ turns) zero = news-picks ts gs.items
second-at ts (t ∷ turns) (suc k) = second-at ts turns k

second-under : (n : ℕ) (turns : List Turn) (k : ℕ) → TurnsUnder n turns → AreBelow n (second_of (slice_get turns k))
second-under n [] k h = tt
second-under n (Shut c es next ∷ turns) zero h = tt
second-under n (Alone u fs ∷ turns) zero h = tt
second-under n (Split u fs gs ∷ turns) zero h = news-below n gs.items h.0.2
second-under n (t ∷ turns) (suc k) h = second-under n turns k h.1

pub second-below : (n : ℕ) (turns : List Turn) (i : ℕ) → TurnsUnder n turns → AreBelow n (second_at turns i)
second-below n turns i h = second-under n turns (i - 1) h

pub second-news : (ts : List Tree) (turns : List Turn) (n : ℕ) → picked ts (second_at turns n) ≡ second_news (move_at (moves_of ts turns) n)
second-news ts turns n = second-at ts turns (n - 1)
