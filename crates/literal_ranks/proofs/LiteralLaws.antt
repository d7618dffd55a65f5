-- Terms that a literal is taken up or split at.
use Rattle.std.proofs.Common.{◌≡◌, Bool, true, false, Some, refl, ap, sym, ◌∙◌}
use Rattle.std.specs.Prelude.{not}
use Rattle.core_expr.specs.Tree.{Tree, not_, ex_, in_, apply_, if_, choose_, fun_}
use Rattle.core_expr.specs.Put.{IsScoped}
use Rattle.seq_calculus.specs.Calculus.{IsClosed}
use Rattle.search_definition.specs.Terms.{either, when, first_at}
use Rattle.search_definition.specs.Branches.{Branch, has}
use Rattle.search_definition.specs.Splits.{untaken, not_all_taken, split_term}
use Rattle.search_definition.proofs.Standing.{Holds, held, at-holds}

-- the test of a choice, by those of its parts
pub taken_is : (b : Branch) (p : Tree) (x y : Bool) {z : Bool} → x ≡ either (has b (ex_ p)) (has b (not_ (ex_ p))) → y ≡ not_all_taken b p → z ≡ either x y → untaken b (choose_ p) ≡ when (not z) p
taken_is b p x y ex ey ez = ap (λ z. when (not z) p) (assoc (has b (ex_ p)) (has b (not_ (ex_ p))) (not_all_taken b p) ∙ (λ i. either (sym ex i) (sym ey i)) ∙ sym ez)
  where
    assoc : (u v w : Bool) → either u (either v w) ≡ either (either u v) w
    assoc true v w = refl
    assoc false v w = refl

-- P of a closed CHOOSE x : P has one loose variable
untaken_scoped : (b : Branch) (t : Tree) → IsClosed t → Holds (IsScoped 1) (untaken b t)
untaken_scoped b (choose_ p) h = go (not (either (has b (ex_ p)) (either (has b (not_ (ex_ p))) (not_all_taken b p))))
  where
    go : (z : Bool) → Holds (IsScoped 1) (when z p)
    go true = h.1
    go false = tt
untaken_scoped b _ h = tt

pub scoped_body : (b : Branch) (t p : Tree) → first_at (untaken b) t ≡ Some p → IsScoped 1 p
scoped_body b t p e = held (IsScoped 1) (first_at (untaken b) t) p e (at-holds (IsScoped 1) (untaken b) (untaken_scoped b) t)

-- a term that a literal is split at is closed
split_scoped : (b : Branch) (t : Tree) → IsClosed t → Holds IsClosed (split_term b t)
split_scoped b (if_ p x y) h = h
split_scoped b (apply_ (fun_ s e) a) h = go (not (has b (not_ (in_ a s))))
  where
    go : (z : Bool) → Holds IsClosed (when z (apply_ (fun_ s e) a))
    go true = h
    go false = tt
split_scoped b _ h = tt

pub closed_term : (b : Branch) (t u : Tree) → first_at (split_term b) t ≡ Some u → IsClosed u
closed_term b t u e = held IsClosed (first_at (split_term b) t) u e (at-holds IsClosed (split_term b) (split_scoped b) t)
