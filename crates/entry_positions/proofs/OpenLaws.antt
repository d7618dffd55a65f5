-- Positions up to which closings were looked for.
use Rattle.std.proofs.Common.{◌≡◌, ℕ, zero, suc, ◌+◌, ◌<◌, Bool, true, false, List, [], ◌∷◌, ◌++◌, length, take, drop, map, refl, ap, sym, ◌∙◌, arith, append_assoc}
use Rattle.std.specs.Prelude.{Option, Some, None}
use Rattle.std.proofs.lemmas.List.{length_push, append-nil, map-append, take-map, take-append-le, take-append-drop, drop_more, take_more, take_all}
use Rattle.core_expr.specs.Tree.{Tree}
use Rattle.term_bank.specs.Banks.{tree_at}
use Rattle.search_definition.specs.Terms.{or_else}
use Rattle.search_definition.specs.Branches.{Closing, closing, closing_from, closes_with, formulas}
use Rattle.branch_state.specs.Shown.{Placed, no_place, placed_at, fresh, stands, dead, raised, used_at}
use Rattle.tableau_search.specs.Entries.{branch_of, AreKnown}
use Rattle.tableau_search.proofs.LiftLaws.{branch_kept, used_length}
use Rattle.entry_positions.specs.Passed.{IsOpen}
use Rattle.entry_positions.specs.Laws.{OpenStart, OpenAdded, OpenUsed, OpenKept, OpenNext, OpenFound, OpenEnd}

-- the numbers of the formulas
abbrev numbers : List Placed → List ℕ
numbers es = map (λ e. e.formula) es

formulas_are : (ts : List Tree) (es : List Placed) → formulas (branch_of ts es) ≡ map (tree_at ts) (numbers es)
formulas_are ts [] = refl
formulas_are ts (e ∷ es) = ap (λ fs. tree_at ts e.formula ∷ fs) (formulas_are ts es)

no_parts : (o p : Option Closing) → or_else o p ≡ None → (o ≡ None) × (p ≡ None)
no_parts None p h = (refl, h)
no_parts (Some c) p h = cc

-- what closes after formulas that do not
from_more : (older fs gs : List Tree) → closing_from older fs ≡ None → closing_from older (fs ++ gs) ≡ closing_from (older ++ fs) gs
from_more older [] gs h = ap (λ xs. closing_from xs gs) (sym (append-nil older))
from_more older (f ∷ fs) gs h =
    let p = no_parts (closes_with older f) (closing_from (older ++ f ∷ []) fs) h in
    ap (λ o. or_else o (closing_from (older ++ f ∷ []) (fs ++ gs))) p.0
    ∙ from_more (older ++ f ∷ []) fs gs p.1
    ∙ ap (λ xs. closing_from xs gs) (append_assoc older (f ∷ []) fs)

-- the closing by the formulas
shuts : (ts : List Tree) (es : List Placed) (o : Option Closing) → closing_from [] (map (tree_at ts) (numbers es)) ≡ o → closing (branch_of ts es) ≡ o
unfolding closing
shuts ts es o h = ap (closing_from []) (formulas_are ts es) ∙ h

shuts_back : (ts : List Tree) (es : List Placed) (o : Option Closing) → closing (branch_of ts es) ≡ o → closing_from [] (map (tree_at ts) (numbers es)) ≡ o
unfolding closing
shuts_back ts es o h = sym (ap (closing_from []) (formulas_are ts es)) ∙ h

pub open_start : OpenStart
unfolding closing
open_start ts es = record { within = omega arith; none = refl }

pub open_added : OpenAdded
open_added ts es ks n p h = go (stands es n.formula)
  where
    go : (b : Bool) → IsOpen ts (elim b [ true ↦ es | false ↦ es ++ fresh ks n ∷ [] ]) p
    go true = h
    go false =
        record {
          within = omega (arith, h.within, length_push es (fresh ks n));
          none = ap (λ xs. closing (branch_of ts xs)) (take-append-le p es (fresh ks n ∷ []) h.within) ∙ h.none;
        }

numbers_dead : (es : List Placed) (i : ℕ) → numbers (dead es i) ≡ numbers es
numbers_dead [] i = refl
numbers_dead (e ∷ es) zero = refl
numbers_dead (e ∷ es) (suc i) = ap (λ ns. e.formula ∷ ns) (numbers_dead es i)

numbers_raised : (es : List Placed) (i : ℕ) → numbers (raised es i) ≡ numbers es
numbers_raised [] i = refl
numbers_raised (e ∷ es) zero = refl
numbers_raised (e ∷ es) (suc i) = ap (λ ns. e.formula ∷ ns) (numbers_raised es i)

numbers_used : (stays rises : Bool) (es : List Placed) (i : ℕ) → numbers (used_at stays rises es i) ≡ numbers es
numbers_used true true es i = numbers_raised es i
numbers_used true false es i = refl
numbers_used false true es i = numbers_raised (dead es i) i ∙ numbers_dead es i
numbers_used false false es i = numbers_dead es i

pub open_used : OpenUsed
open_used ts es stays rises i p h =
    let xs = used_at stays rises es i in
    let e : numbers (take p xs) ≡ numbers (take p es) = sym (take-map (λ x. x.formula) p xs) ∙ ap (take p) (numbers_used stays rises es i) ∙ take-map (λ x. x.formula) p es in
    record {
      within = omega (arith, h.within, used_length stays rises es i);
      none = shuts ts (take p xs) None (ap (λ ns. closing_from [] (map (tree_at ts) ns)) e ∙ shuts_back ts (take p es) None h.none);
    }

known_take : (n p : ℕ) (es : List Placed) → AreKnown n es → AreKnown n (take p es)
known_take n zero es a = tt
known_take n (suc p) [] a = tt
known_take n (suc p) (e ∷ es) a = (a.0, known_take n p es a.1)

pub open_kept : OpenKept
open_kept ts us es p g a h = record { within = h.within; none = ap closing (branch_kept ts us (take p es) g (known_take (length ts) p es a)) ∙ h.none }

-- the formulas from a position on
after : (ts : List Tree) (es : List Placed) (p : ℕ) → IsOpen ts es p → p < length es
    → closing_from [] (map (tree_at ts) (numbers es)) ≡ or_else (closes_with (formulas (branch_of ts (take p es))) (tree_at ts (placed_at es p).formula)) (closing_from (map (tree_at ts) (numbers (take p es)) ++ tree_at ts (placed_at es p).formula ∷ []) (map (tree_at ts) (numbers (drop (p + 1) es))))
after ts es p h l =
    let fs = map (tree_at ts) (numbers (take p es)) in
    let f = tree_at ts (placed_at es p).formula in
    let gs = map (tree_at ts) (numbers (drop (p + 1) es)) in
    let e : es ≡ take p es ++ (placed_at es p ∷ drop (p + 1) es) = sym (take-append-drop p es) ∙ ap (λ xs. take p es ++ xs) (drop_more es p no_place l) in
    let m : map (tree_at ts) (numbers es) ≡ fs ++ f ∷ gs =
    ap (λ xs. map (tree_at ts) (numbers xs)) e ∙ ap (map (tree_at ts)) (map-append (λ x. x.formula) (take p es) (placed_at es p ∷ drop (p + 1) es)) ∙ map-append (tree_at ts) (numbers (take p es)) ((placed_at es p).formula ∷ numbers (drop (p + 1) es)) in
    ap (closing_from []) m
    ∙ from_more [] fs (f ∷ gs) (shuts_back ts (take p es) None h.none)
    ∙ ap (λ xs. or_else (closes_with xs f) (closing_from (fs ++ f ∷ []) gs)) (sym (formulas_are ts (take p es)))

pub open_found : OpenFound
open_found ts es p c h l e = shuts ts es (Some c) (after ts es p h l ∙ ap (λ o. or_else o (closing_from (map (tree_at ts) (numbers (take p es)) ++ tree_at ts (placed_at es p).formula ∷ []) (map (tree_at ts) (numbers (drop (p + 1) es))))) e)

pub open_next : OpenNext
open_next ts es p h l e =
    let fs = map (tree_at ts) (numbers (take p es)) in
    let f = tree_at ts (placed_at es p).formula in
    let m : map (tree_at ts) (numbers (take (p + 1) es)) ≡ fs ++ f ∷ [] =
    ap (λ xs. map (tree_at ts) (numbers xs)) (take_more es p no_place l) ∙ ap (map (tree_at ts)) (map-append (λ x. x.formula) (take p es) (placed_at es p ∷ [])) ∙ map-append (tree_at ts) (numbers (take p es)) ((placed_at es p).formula ∷ []) in
    record {
      within = omega (arith, l);
      none =
          shuts ts (take (p + 1) es) None
          (ap (closing_from []) m
          ∙ from_more [] fs (f ∷ []) (shuts_back ts (take p es) None h.none)
          ∙ ap (λ xs. or_else (closes_with xs f) None) (sym (formulas_are ts (take p es)))
          ∙ ap (λ o. or_else o None) e);
    }

pub open_end : OpenEnd
open_end ts es p h l = ap (λ xs. closing (branch_of ts xs)) (sym (take_all p es l)) ∙ h.none
