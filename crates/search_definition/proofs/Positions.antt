-- First entries from a position on.
use Rattle.std.proofs.Common.{◌≡◌, ◌⊎◌, ℕ, zero, suc, ◌+◌, ◌<◌, ◌≤◌, Bool, true, false, Option, Some, None, [], ◌∷◌, ◌++◌, length, drop, refl, ap, sym, ◌∙◌, arith, inl, inr}
use Rattle.std.proofs.lemmas.List.{get_or_append_left}
use Rattle.std.proofs.lemmas.Bool.{false≢true}
use Rattle.core_expr.specs.Tree.{Tree}
use Rattle.search_definition.specs.Terms.{if_so, or_else}
use Rattle.search_definition.specs.Branches.{Entry, Branch, has, add, used}
use Rattle.search_definition.specs.Rules.{Step, Result, at_entry, at_live, oldest}
use Rattle.search_definition.specs.Watches.{no_entry, entry_at, NoneBefore}
use Rattle.search_definition.specs.Laws.{OldestFrom, OldestFound, OldestNone, PositionStays, PositionKept, PositionUsed}

passed : (rule : Tree → Option Step) (i : ℕ) (l : Bool) (f : Tree) (more : Option Result) → (l ≡ true → rule f ≡ None) → or_else (at_entry i (at_live rule l f)) more ≡ more
passed rule i true f more h = ap (λ o. or_else (at_entry i o) more) (h refl)
passed rule i false f more h = refl

from_at : (rule : Tree → Option Step) (i k m : ℕ) (b : Branch) → m ≡ i + k → k ≤ length b → NoneBefore rule k b → oldest rule i b ≡ oldest rule m (drop k b)
from_at rule i zero m b e l n = let q : i ≡ m = omega arith in ap (λ j. oldest rule j b) q
from_at rule i (suc k) m [] e l n = absurd (omega arith)
from_at rule i (suc k) m (d ∷ b) e l n =
    passed rule i d.live d.formula (oldest rule (suc i) b) (λ h. n 0 (omega arith) (omega arith) h)
    ∙ from_at rule (suc i) k m b (omega arith) (omega arith) (λ j u v w. n (suc j) (omega arith) (omega arith) w)

pub oldest_from : OldestFrom
oldest_from rule k b l n = from_at rule 0 k k b (omega arith) l n

found_at : (rule : Tree → Option Step) (i k m : ℕ) (b : Branch) (s : Step) → m ≡ i + k → NoneBefore rule k b → k < length b → (entry_at b k).live ≡ true → rule (entry_at b k).formula ≡ Some s → oldest rule i b ≡ Some (record { entry = m; step = s })
found_at rule i k m [] s e n l a r = absurd (omega arith)
found_at rule i zero m (d ∷ b) s e n l a r =
    let q : i ≡ m = omega arith in
    ap (λ x. or_else (at_entry i (at_live rule x d.formula)) (oldest rule (suc i) b)) a ∙ ap (λ o. or_else (at_entry i o) (oldest rule (suc i) b)) r ∙ ap (λ j. Some (record { entry = j; step = s })) q
found_at rule i (suc k) m (d ∷ b) s e n l a r =
    passed rule i d.live d.formula (oldest rule (suc i) b) (λ h. n 0 (omega arith) (omega arith) h)
    ∙ found_at rule (suc i) k m b s (omega arith) (λ j u v w. n (suc j) (omega arith) (omega arith) w) (omega arith) a r

pub oldest_found : OldestFound
oldest_found rule k b s n l a r = found_at rule 0 k k b s (omega arith) n l a r

none_at : (rule : Tree → Option Step) (i k : ℕ) (b : Branch) → NoneBefore rule k b → length b ≤ k → oldest rule i b ≡ None
none_at rule i k [] n l = refl
none_at rule i zero (d ∷ b) n l = absurd (omega arith)
none_at rule i (suc k) (d ∷ b) n l =
    passed rule i d.live d.formula (oldest rule (suc i) b) (λ h. n 0 (omega arith) (omega arith) h)
    ∙ none_at rule (suc i) k b (λ j u v w. n (suc j) (omega arith) (omega arith) w) (omega arith)

pub oldest_none : OldestNone
oldest_none rule k b n l = none_at rule 0 k b n l

abbrev entry_of : Tree → Entry
entry_of f = record { formula = f; live = true; count = 0 }

pub position_stays : PositionStays
position_stays rule k b f l n = go (has b f)
  where
    go : (x : Bool) → NoneBefore rule k (if_so x b (b ++ entry_of f ∷ []))
    go true = n
    go false =
        λ i u v w.
        let e : entry_at (b ++ entry_of f ∷ []) i ≡ entry_at b i = get_or_append_left b (entry_of f ∷ []) no_entry i (omega arith) in
        ap (λ (d : Entry). rule d.formula) e ∙ n i u (omega arith) (sym (ap (λ (d : Entry). d.live) e) ∙ w)

pub position_kept : PositionKept
position_kept rule k b f l m n = position_stays (rule (add b f)) k b f l (λ j a c d. m (entry_at b j).formula (n j a c d))

length_used : (s r : Bool) (b : Branch) (i : ℕ) → length (used s r b i) ≡ length b
length_used s r [] i = refl
length_used s r (e ∷ b) zero = refl
length_used s r (e ∷ b) (suc i) = ap suc (length_used s r b i)

at_used : (s r : Bool) (b : Branch) (i j : ℕ) → (entry_at (used s r b i) j ≡ entry_at b j) ⊎ ((entry_at (used s r b i) j).live ≡ s)
at_used s r [] i j = inl refl
at_used s r (e ∷ b) zero zero = inr refl
at_used s r (e ∷ b) zero (suc j) = inl refl
at_used s r (e ∷ b) (suc i) zero = inl refl
at_used s r (e ∷ b) (suc i) (suc j) = at_used s r b i j

pub position_used : PositionUsed
position_used rule k r b i n j u v w =
    elim (at_used false r b i j) [
      | inl e ↦ ap (λ (d : Entry). rule d.formula) e ∙ n j u (omega (arith, length_used false r b i)) (sym (ap (λ (d : Entry). d.live) e) ∙ w)
      | inr e ↦ absurd (false≢true (sym e ∙ w))
    ]
