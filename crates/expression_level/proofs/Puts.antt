-- Loops over arguments, one step after another.
use Rattle.std.proofs.Common.{◌≡◌, ℕ, zero, suc, ◌+◌, ◌≤◌, ◌<◌, List, [], ◌∷◌, ◌++◌, drop, length, get_or, replicate, min, refl, sym, ap, ◌∙◌, arith, drop-cons, add-one}
use Rattle.std.proofs.lemmas.Grind.{common_steps}
use Rattle.tla_ast.specs.declared.place.Place.{Place}
use Rattle.expression_level.specs.declared.weight.Use.{Use}
use Rattle.expression_level.specs.Weights.{Weight, unused, as_it_is, uses_of, nothing, join, total, argument, put}
use Rattle.expression_level.proofs.Uses.{join-assoc, joined-nothing}

pub uses_of_is : (n : ℕ) → uses_of n ≡ replicate n unused ++ as_it_is ∷ []
uses_of_is zero = refl
uses_of_is (suc n) = ap (λ l. unused ∷ l) (uses_of_is n)

pub total-next : (all now next : Weight) (w : Weight) (ws rest : List Weight) → join now (total ws) ≡ all → ws ≡ w ∷ rest → next ≡ join now w → join next (total rest) ≡ all
total-next all now next w ws rest h e n = ap (λ x. join x (total rest)) n ∙ join-assoc now w (total rest) ∙ ap (λ l. join now (total l)) (sym e) ∙ h

pub total-ends : (all now : Weight) (ws : List Weight) (n : ℕ) → join now (total ws) ≡ all → n ≡ length ws → n ≡ 0 → now ≡ all
total-ends all now [] n h e z = sym (joined-nothing now) ∙ h
total-ends all now (w ∷ ws) n h e z = absurd (omega (arith, e, z))

next-item : {X : Type 0} (xs : List X) (i : ℕ) (x : X) → i < length xs → x ≡ get_or xs i x → drop i xs ≡ x ∷ drop (i + 1) xs
next-item xs i x h e = grind (arith, common_steps)

pub put-next : (p : Place) (all now next given : Weight) (us : List Use) (ws : List Weight) (i : ℕ) (u : Use) (w : Weight) → join now (put p (drop i us) (drop i ws)) ≡ all → i < length us → i < length ws
    → w ≡ get_or ws i w → given ≡ argument p (get_or us i u) w → next ≡ join now given → join next (put p (drop (i + 1) us) (drop (i + 1) ws)) ≡ all
put-next p all now next given us ws i u w h k l b c n =
    let d = drop-cons us i u k ∙ ap (λ m. get_or us i u ∷ drop m us) (sym (add-one i)) in
    let e = next-item ws i w l b in
    ap (λ x. join x (put p (drop (i + 1) us) (drop (i + 1) ws))) (n ∙ ap (join now) c)
    ∙ join-assoc now (argument p (get_or us i u) w) (put p (drop (i + 1) us) (drop (i + 1) ws))
    ∙ ap (join now) (sym (λ j. put p (d j) (e j)))
    ∙ h

no-put : (p : Place) (us : List Use) → put p us [] ≡ nothing
no-put p [] = refl
no-put p (u ∷ us) = refl

ends : (p : Place) (i : ℕ) (us : List Use) (ws : List Weight) → min (length us) (length ws) ≤ i → put p (drop i us) (drop i ws) ≡ nothing
ends p zero [] ws h = refl
ends p (suc i) [] ws h = refl
ends p zero (u ∷ us) [] h = refl
ends p (suc i) (u ∷ us) [] h = no-put p (drop i us)
ends p zero (u ∷ us) (w ∷ ws) h = absurd (omega (arith, h))
ends p (suc i) (u ∷ us) (w ∷ ws) h = ends p i us ws (omega (arith, h))

pub put-ends : (p : Place) (all now : Weight) (us : List Use) (ws : List Weight) (i : ℕ) → join now (put p (drop i us) (drop i ws)) ≡ all → min (length us) (length ws) ≤ i → now ≡ all
put-ends p all now us ws i h e = sym (joined-nothing now) ∙ ap (join now) (sym (ends p i us ws e)) ∙ h
