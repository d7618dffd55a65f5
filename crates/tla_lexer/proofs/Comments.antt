-- Comments, at an index.
use Rattle.std.proofs.Common.{◌≡◌, ℕ, suc, ◌+◌, ◌-◌, ◌<◌, ◌≤◌, Bool, true, false, cond, ◌==◌, [], ◌∷◌, length, drop, get_or, Option, Some, None, refl, sym, ap, ◌∙◌, arith, add_assoc, length-drop}
use Rattle.std.proofs.Math.Seq.{drop-cons}
use Rattle.std.proofs.lemmas.Bool.{cond-true, true≢false}
use Rattle.tla_lexer.specs.Signs.{Text}
use Rattle.tla_lexer.specs.Comments.{rest_len, longer, opens, closes}

pub longer-longer : (a b : ℕ) (o : Option ℕ) → longer a (longer b o) ≡ longer (a + b) o
longer-longer a b None = refl
longer-longer a b (Some k) = ap Some (sym (add_assoc a b k))

cond-false : {A : Type 0} (b : Bool) (x y : A) → b ≡ false → cond b x y ≡ y
cond-false true x y e = absurd (true≢false e)
cond-false false x y e = refl

two : (z : Text) (i : ℕ) → i + 1 < length z → drop i z ≡ get_or z i 0 ∷ get_or z (i + 1) 0 ∷ drop (i + 2) z
two z i h =
    let e : i + 1 ≡ suc i = omega arith in
    let f : i + 2 ≡ suc (suc i) = omega arith in
    let first : i < length z = omega arith in
    let second : suc i < length z = omega arith in
    rw (e, f) (drop-cons z i 0 first ∙ ap (λ r. get_or z i 0 ∷ r) (drop-cons z (suc i) 0 second))

one : (z : Text) (i : ℕ) → i + 1 < length z → drop (i + 1) z ≡ get_or z (i + 1) 0 ∷ drop (i + 2) z
one z i h =
    let e : i + 1 ≡ suc i = omega arith in
    let f : i + 2 ≡ suc (suc i) = omega arith in
    let second : suc i < length z = omega arith in
    rw (e, f) (drop-cons z (suc i) 0 second)

pub rest-opens : (depth : ℕ) (z : Text) (i : ℕ) → i + 1 < length z → opens (get_or z i 0) (get_or z (i + 1) 0) ≡ true → rest_len depth (drop i z) ≡ longer 2 (rest_len (depth + 1) (drop (i + 2) z))
rest-opens depth z i h e = ap (rest_len depth) (two z i h) ∙ cond-true _ _ _ e ∙ ap (λ d. longer 2 (rest_len d (drop (i + 2) z))) (let s : suc depth ≡ depth + 1 = omega arith in s)

pub rest-closes : (depth : ℕ) (z : Text) (i : ℕ) → i + 1 < length z → opens (get_or z i 0) (get_or z (i + 1) 0) ≡ false → closes (get_or z i 0) (get_or z (i + 1) 0) ≡ true
    → rest_len depth (drop i z) ≡ cond (depth == 0) (Some 2) (longer 2 (rest_len (depth - 1) (drop (i + 2) z)))
rest-closes depth z i h not e = ap (rest_len depth) (two z i h) ∙ cond-false _ _ _ not ∙ cond-true _ _ _ e

pub rest-passes : (depth : ℕ) (z : Text) (i : ℕ) → i + 1 < length z → opens (get_or z i 0) (get_or z (i + 1) 0) ≡ false → closes (get_or z i 0) (get_or z (i + 1) 0) ≡ false
    → rest_len depth (drop i z) ≡ longer 1 (rest_len depth (drop (i + 1) z))
rest-passes depth z i h not other = ap (rest_len depth) (two z i h) ∙ cond-false _ _ _ not ∙ cond-false _ _ _ other ∙ ap (λ r. longer 1 (rest_len depth r)) (sym (one z i h))

rest-short : (depth : ℕ) (z : Text) → length z ≤ 1 → rest_len depth z ≡ None
rest-short depth [] h = refl
rest-short depth (b ∷ []) h = refl
rest-short depth (b ∷ c ∷ z) h = absurd (omega arith)

pub rest-end : (depth : ℕ) (z : Text) (i : ℕ) → length z ≤ i + 1 → rest_len depth (drop i z) ≡ None
rest-end depth z i h = rest-short depth (drop i z) (omega (arith, length-drop {A = ℕ}))
