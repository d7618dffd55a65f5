-- Valuations by number; the laws together; bounds.
use Rattle.std.specs.Prelude.{◌≡◌, ◌<◌, ◌+◌, ℕ, zero, suc, false, List, [], ◌∷◌}
use Rattle.std.proofs.Common.{refl, ap, sym, ◌∙◌, arith, get_or, lit<, lit≤, le_trans}
use Rattle.std.proofs.Math.Nat.{pow-le-pow_right}
use Rattle.core_expr.specs.Tree.{Tree}
use Rattle.core_expr.specs.Tree.Tree.{app}
use Rattle.core_expr.specs.Tree.Parts.{end}
use Rattle.valuation.specs.Truth.{value_under, AllHold, by_number, both, negated, one_holds, agreeing}
use Rattle.search_definition.specs.Branches.{Branch, has}
use Rattle.search_definition.specs.Search.{End, search}
use Rattle.search_definition.specs.Search.End.{Closed, Saturated, Spent}
use Rattle.propositional_laws.specs.Formulas.{Formula, Formulas, all_connectives, numbered, IsNumbered, AreNumbered, symbol_count}
use Rattle.propositional_laws.specs.Formulas.Formula.{f_true, f_false, f_symbol, f_not, f_and, f_or, f_imp, f_iff}
use Rattle.propositional_laws.specs.Valuations.{valuation_of, valuation_from, valuation, IsValid}
use Rattle.propositional_laws.specs.Laws.{SaturatedFalsifies, ValuesFalsify, ClosedIsValid, TurnsSuffice, DecidesPropositional, FewConnectives}
use Rattle.propositional_laws.proofs.Forms.{formed}

-- a value in the row
in-row : (k n j : ℕ) (b : Branch) → j < n → get_or (valuation_from k n b) j false ≡ has b (app (numbered (k + j)) end)
in-row k zero j b h = absurd (omega (arith, h))
in-row k (suc n) zero b h = ap (λ m. has b (app (numbered m) end)) plus
  where
    plus : k ≡ k + 0
    plus = omega arith
in-row k (suc n) (suc j) b h = in-row (suc k) n j b (omega (arith, h)) ∙ ap (λ m. has b (app (numbered m) end)) plus
  where
    plus : suc k + j ≡ k + suc j
    plus = omega arith

same-value : (n : ℕ) (b : Branch) (f : Tree) → Formula f → IsNumbered n f → value_under (by_number (valuation n b)) f ≡ value_under (valuation_of b) f
unfolding valuation
same-value n b _ f_true h = refl
same-value n b _ f_false h = refl
same-value n b _ (f_symbol s) h = in-row 0 n s.number b h.1 ∙ (ap (λ m. has b (app (numbered m) end)) plus ∙ ap (valuation_of b) (sym h.0))
  where
    plus : 0 + s.number ≡ s.number
    plus = omega arith
same-value n b _ (f_not {a} p) h = ap negated (same-value n b a p h)
same-value n b _ (f_and {a} {b = c} p q) h = λ i. both (same-value n b a p h.0 i) (same-value n b c q h.1 i)
same-value n b _ (f_or {a} {b = c} p q) h = λ i. one_holds (same-value n b a p h.0 i) (same-value n b c q h.1 i)
same-value n b _ (f_imp {a} {b = c} p q) h = λ i. one_holds (negated (same-value n b a p h.0 i)) (same-value n b c q h.1 i)
same-value n b _ (f_iff {a} {b = c} p q) h = λ i. agreeing (same-value n b a p h.0 i) (same-value n b c q h.1 i)

all-same : (n : ℕ) (b : Branch) (fs : List Tree) → Formulas fs → AreNumbered n fs → AllHold (valuation_of b) fs → AllHold (by_number (valuation n b)) fs
all-same n b [] p h k = tt
all-same n b (f ∷ fs) p h k = (same-value n b f p.0 h.0 ∙ k.0, all-same n b fs p.1 h.1 k.1)

pub values_falsify : SaturatedFalsifies → ValuesFalsify
values_falsify saturated c p n limit m b h =
    let f = formed c p in
    let k = saturated c.facts c.goal f.0 f.1 limit m b h in
    (all-same (symbol_count c) b c.facts f.0 n.0 k.0, same-value (symbol_count c) b c.goal f.1 n.1 ∙ k.1)

pub decides : SaturatedFalsifies → ClosedIsValid → TurnsSuffice → DecidesPropositional
decides saturated closed suffice facts goal p q limit l = ((λ h. closed facts goal p q limit h.0 h.1), λ h. go h (search facts goal limit) refl)
  where
    go : IsValid facts goal → (e : End) → search facts goal limit ≡ e → (m : ℕ) × (search facts goal limit ≡ Closed m)
    go h (Closed m) e = (m, e)
    go h (Saturated b m) e = absurd (h (valuation_of b) (saturated facts goal p q limit m b e))
    go h (Spent m) e = absurd (suffice facts goal p q limit m l e)

pub few_connectives : FewConnectives
few_connectives facts goal = (
  (λ h. le_trans (pow-le-pow_right {n = 2} (lit< tt) {i = all_connectives facts goal + 1} {j = 16} (omega (arith, h))) (lit≤ tt)),
  λ h. le_trans (pow-le-pow_right {n = 2} (lit< tt) {i = all_connectives facts goal + 1} {j = 19} (omega (arith, h))) (lit≤ tt),
)
