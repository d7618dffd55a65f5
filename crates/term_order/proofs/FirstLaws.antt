-- Lists without repeats.
use Rattle.std.proofs.Common.{◌≡◌, Bool, true, false, Option, Some, None, List, [], ◌∷◌, ◌++◌, refl, ap, sym, ◌∙◌, inl, inr}
use Rattle.core_expr.specs.Tree.{Tree}
use Rattle.core_expr.specs.Terms.{same}
use Rattle.core_expr.proofs.Equal.{same-true, same-refl}
use Rattle.search_definition.specs.Terms.{if_so, either, or_else, first_some, in_list, closed_subterms, first_at}
use Rattle.term_order.specs.Firsts.{firsts_after, firsts}
use Rattle.term_order.specs.Walks.{Among}

pub in_list-push : (xs : List Tree) (x y : Tree) → in_list (xs ++ x ∷ []) y ≡ either (in_list xs y) (same x y)
in_list-push [] x y = go (same x y)
  where
    go : (b : Bool) → either b false ≡ either false b
    go true = refl
    go false = refl
in_list-push (z ∷ xs) x y = go (same z y) (in_list-push xs x y)
  where
    go : (b : Bool) → in_list (xs ++ x ∷ []) y ≡ either (in_list xs y) (same x y) → either b (in_list (xs ++ x ∷ []) y) ≡ either (either b (in_list xs y)) (same x y)
    go true e = refl
    go false e = e

pub kept_in : (xs : List Tree) (x y : Tree) → in_list xs y ≡ true → in_list (xs ++ x ∷ []) y ≡ true
kept_in xs x y h = in_list-push xs x y ∙ ap (λ b. either b (same x y)) h

pub last_in : (xs : List Tree) (x y : Tree) → y ≡ x → in_list (xs ++ x ∷ []) y ≡ true
last_in xs x y e = in_list-push xs x y ∙ second (in_list xs y) (same x y) (ap (same x) e ∙ same-refl x)
  where
    second : (b c : Bool) → c ≡ true → either b c ≡ true
    second true c h = refl
    second false c h = h

-- what was seen is passed by
pub pass_seen : (seen xs rest : List Tree) → ((y : Tree) → Among y xs → in_list seen y ≡ true) → firsts_after seen (xs ++ rest) ≡ firsts_after seen rest
pass_seen seen [] rest h = refl
pass_seen seen (x ∷ xs) rest h =
    ap (λ b. if_so b (firsts_after seen (xs ++ rest)) (x ∷ firsts_after (seen ++ x ∷ []) (xs ++ rest))) (h x (inl refl))
    ∙ pass_seen seen xs rest (λ y m. h y (inr m))

-- each function has the same first answer without the repeats
module _ {B : Type 0} (f : Tree → Option B) where
  abbrev NoneOf : List Tree → Type 0
  NoneOf xs = (y : Tree) → in_list xs y ≡ true → f y ≡ None

  none_push : (xs : List Tree) (x : Tree) → NoneOf xs → f x ≡ None → NoneOf (xs ++ x ∷ [])
  none_push xs x h e y m = go (in_list xs y) refl (same x y) refl (sym (in_list-push xs x y) ∙ m)
    where
      go : (b : Bool) → in_list xs y ≡ b → (c : Bool) → same x y ≡ c → either b c ≡ true → f y ≡ None
      go true z c w t = h y z
      go false z true w t = ap f (sym (same-true x y w)) ∙ e
      go false z false w t = cc

  some_firsts : (seen xs : List Tree) → NoneOf seen → first_some f (firsts_after seen xs) ≡ first_some f xs
  some_firsts seen [] h = refl
  some_firsts seen (x ∷ xs) h = go (in_list seen x) refl (f x) refl (some_firsts seen xs h) (some_firsts (seen ++ x ∷ []) xs)
    where
      go : (b : Bool) → in_list seen x ≡ b → (o : Option B) → f x ≡ o → first_some f (firsts_after seen xs) ≡ first_some f xs → (NoneOf (seen ++ x ∷ []) → first_some f (firsts_after (seen ++ x ∷ []) xs) ≡ first_some f xs)
          → first_some f (if_so b (firsts_after seen xs) (x ∷ firsts_after (seen ++ x ∷ []) xs)) ≡ or_else (f x) (first_some f xs)
      go true z o w rec more = rec ∙ sym (ap (λ p. or_else p (first_some f xs)) (h x z))
      go false z None w rec more = ap (or_else (f x)) (more (none_push seen x h w))
      go false z (Some v) w rec more = ap (λ p. or_else p (first_some f (firsts_after (seen ++ x ∷ []) xs))) w ∙ sym (ap (λ p. or_else p (first_some f xs)) w)

  pub first_some-firsts : (xs : List Tree) → first_some f (firsts xs) ≡ first_some f xs
  first_some-firsts xs = some_firsts [] xs (λ y m. cc)

  -- so the first answer is found along a list without repeats
  pub first_at-firsts : (e : Tree) (xs : List Tree) → xs ≡ firsts (closed_subterms e) → first_some f xs ≡ first_at f e
  first_at-firsts e xs h = ap (first_some f) h ∙ first_some-firsts (closed_subterms e)
