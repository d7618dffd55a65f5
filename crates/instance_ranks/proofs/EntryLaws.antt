-- What is read of an entry.
use Rattle.std.proofs.Common.{◌≡◌, ℕ, zero, suc, ◌<◌, Bool, true, false, Option, Some, None, List, [], ◌∷◌, length, refl, ap, sym, ◌∙◌, subst, arith}
use Rattle.std.specs.Prelude.{not}
use Rattle.core_expr.specs.Tree.{Tree}
use Rattle.core_expr.specs.Put.{IsScoped}
use Rattle.term_bank.specs.Banks.{tree_at}
use Rattle.search_definition.specs.Instances.{Universal, universal}
use Rattle.search_definition.proofs.Standing.{Holds}
use Rattle.branch_book.specs.declared.item.Item.{Item}
use Rattle.branch_state.specs.Shown.{Placed, placed_at, item_of}
use Rattle.tableau_search.specs.Entries.{AreKnown, AreClosed}
use Rattle.tableau_search.proofs.LiftLaws.{known_at}
use Rattle.formula_rules.specs.declared.quantified.Quantified.{Quantified}
use Rattle.formula_rules.specs.Answers.{HasUniversal}
use Rattle.instance_ranks.specs.Seeking.{IsBody}
use Rattle.instance_ranks.proofs.ClosedLaws.{universal_scoped}

pub formula_here : (es : List Placed) (i : ℕ) (x : Item) → x ≡ item_of (placed_at es i) → x.formula ≡ (placed_at es i).formula
formula_here es i x e = ap (λ (y : Item). y.formula) e

pub live_here : (es : List Placed) (i : ℕ) (x : Item) → x ≡ item_of (placed_at es i) → x.live ≡ true → (placed_at es i).live ≡ true
live_here es i x e h = sym (ap (λ (y : Item). y.live) e) ∙ h

pub entry_below : (n : ℕ) (es : List Placed) (i : ℕ) (x : Item) → AreKnown n es → i < length es → x ≡ item_of (placed_at es i) → x.formula < n
entry_below n es i x a l e = subst (λ f. f < n) (sym (formula_here es i x e)) (known_at n es i a l)

closed_here : (ts : List Tree) (es : List Placed) (i : ℕ) → AreClosed ts es → i < length es → IsScoped 0 (tree_at ts (placed_at es i).formula)
closed_here ts [] i c l = absurd (omega (arith, l))
closed_here ts (e ∷ es) zero c l = c.0
closed_here ts (e ∷ es) (suc i) c l = closed_here ts es i c.1 (omega (arith, l))

pub entry_closed : (ts : List Tree) (es : List Placed) (i : ℕ) (x : Item) → AreClosed ts es → i < length es → x ≡ item_of (placed_at es i) → IsScoped 0 (tree_at ts x.formula)
entry_closed ts es i x c l e = subst (λ f. IsScoped 0 (tree_at ts f)) (sym (formula_here es i x e)) (closed_here ts es i c l)

pub is_live : (b : Bool) → not b ≡ false → b ≡ true
is_live true e = refl
is_live false e = sym e

-- the body of a universal that is closed
pub body_of : (ts : List Tree) (f : ℕ) (u : Quantified) → HasUniversal ts (Some u) (universal (tree_at ts f)) → IsScoped 0 (tree_at ts f) → IsBody ts u
body_of ts f u h c = go (universal (tree_at ts f)) h (universal_scoped (tree_at ts f) c)
  where
    go : (v : Option Universal) → HasUniversal ts (Some u) v → Holds (λ v. IsScoped 1 v.body) v → IsBody ts u
    go None h k = absurd h
    go (Some v) h k = record { within = h.within; scoped = subst (IsScoped 1) (sym (ap (λ (w : Universal). w.body) h.is)) k }
