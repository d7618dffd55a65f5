-- The heads in tables.
use Rattle.std.proofs.Common.{◌≡◌, ℕ, Bool, true, false, List, [], ◌∷◌, if◌then◌else◌, ◌&&◌, refl, Some}
use Rattle.std.specs.Prelude.{IfSome}
use Rattle.std.specs.List.{list_all}
use Rattle.core_expr.specs.declared.head.Head.{Head}
use Rattle.core_expr.specs.Heads.{takes}
use Rattle.plain_syntax.specs.Plain.{Text}
use Rattle.prime_expand.specs.Symbols.{head_in, is_word, flagged}

-- where each head of a table may have n parts, the head that is found may
pub taken : (n : ℕ) (rows : List (Text × Head)) (o : Text) → list_all (λ r. takes r.1 n) rows ≡ true → IfSome (head_in rows o) (λ h. takes h n ≡ true)
taken n [] o h = tt
taken n (r ∷ rs) o h = go (is_word r.0 o) (takes r.1 n) refl h (taken n rs o)
  where
    go : (b c : Bool) → takes r.1 n ≡ c → (c && list_all (λ q. takes q.1 n) rs) ≡ true → (list_all (λ q. takes q.1 n) rs ≡ true → IfSome (head_in rs o) (λ f. takes f n ≡ true))
        → IfSome (if b then Some r.1 else head_in rs o) (λ f. takes f n ≡ true)
    go b false e p more = cc
    go true true e p more = e
    go false true e p more = more p

pub flagged-none : (fs : List Bool) → flagged fs [] ≡ []
flagged-none [] = refl
flagged-none (f ∷ fs) = refl
