-- Closings after a formula is added, and after an entry is used.
use Rattle.std.proofs.Common.{◌≡◌, ℕ, zero, suc, Bool, true, false, Option, Some, None, List, [], ◌∷◌, ◌++◌, refl, ap, sym, ◌∙◌, append_assoc}
use Rattle.core_expr.specs.Tree.{Tree}
use Rattle.search_definition.specs.Terms.{if_so, or_else}
use Rattle.search_definition.specs.Branches.{Entry, Branch, Closing, closing, closing_from, closes_with, formulas, has, used}
use Rattle.search_definition.specs.Laws.{ClosingAdded, ClosingUsed, ClosingStays}

no_parts : (o p : Option Closing) → or_else o p ≡ None → (o ≡ None) × (p ≡ None)
no_parts None p h = (refl, h)
no_parts (Some c) p h = cc

last_none : (o : Option Closing) → or_else o None ≡ o
last_none None = refl
last_none (Some c) = refl

nothing_behind : (xs : List Tree) → xs ++ [] ≡ xs
nothing_behind [] = refl
nothing_behind (x ∷ xs) = ap (λ ys. x ∷ ys) (nothing_behind xs)

added_from : (older fs : List Tree) (g : Tree) → closing_from older fs ≡ None → closing_from older (fs ++ g ∷ []) ≡ closes_with (older ++ fs) g
added_from older [] g h = last_none (closes_with older g) ∙ ap (λ xs. closes_with xs g) (sym (nothing_behind older))
added_from older (f ∷ fs) g h =
    let p = no_parts (closes_with older f) (closing_from (older ++ f ∷ []) fs) h in
    ap (λ o. or_else o (closing_from (older ++ f ∷ []) (fs ++ g ∷ []))) p.0
    ∙ added_from (older ++ f ∷ []) fs g p.1
    ∙ ap (λ xs. closes_with xs g) (append_assoc older (f ∷ []) fs)

stays_from : (older fs : List Tree) (g : Tree) (c : Closing) → closing_from older fs ≡ Some c → closing_from older (fs ++ g ∷ []) ≡ Some c
stays_from older [] g c h = cc
stays_from older (f ∷ fs) g c h = go (closes_with older f) h (λ k. stays_from (older ++ f ∷ []) fs g c k)
  where
    go : (o : Option Closing) → or_else o (closing_from (older ++ f ∷ []) fs) ≡ Some c → (closing_from (older ++ f ∷ []) fs ≡ Some c → closing_from (older ++ f ∷ []) (fs ++ g ∷ []) ≡ Some c) → or_else o (closing_from (older ++ f ∷ []) (fs ++ g ∷ [])) ≡ Some c
    go None k r = r k
    go (Some d) k r = k

formulas_last : (b : Branch) (e : Entry) → formulas (b ++ e ∷ []) ≡ formulas b ++ e.formula ∷ []
formulas_last [] e = refl
formulas_last (d ∷ b) e = ap (λ fs. d.formula ∷ fs) (formulas_last b e)

abbrev entry_of : Tree → Entry
entry_of f = record { formula = f; live = true; count = 0 }

pub closing_added : ClosingAdded
unfolding closing
closing_added b f h n =
    ap (λ x. closing_from [] (formulas (if_so x b (b ++ entry_of f ∷ [])))) n
    ∙ ap (λ fs. closing_from [] fs) (formulas_last b (entry_of f))
    ∙ added_from [] (formulas b) f h

pub closing_stays : ClosingStays
unfolding closing
closing_stays b f c h = go (has b f)
  where
    go : (x : Bool) → closing_from [] (formulas (if_so x b (b ++ entry_of f ∷ []))) ≡ Some c
    go true = h
    go false = ap (λ fs. closing_from [] fs) (formulas_last b (entry_of f)) ∙ stays_from [] (formulas b) f c h

pub formulas_used : (s r : Bool) (b : Branch) (i : ℕ) → formulas (used s r b i) ≡ formulas b
formulas_used s r [] i = refl
formulas_used s r (e ∷ b) zero = refl
formulas_used s r (e ∷ b) (suc i) = ap (λ fs. e.formula ∷ fs) (formulas_used s r b i)

pub closing_used : ClosingUsed
unfolding closing
closing_used s r b i = ap (λ fs. closing_from [] fs) (formulas_used s r b i)
