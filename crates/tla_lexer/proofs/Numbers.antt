-- Numbers, at an index of their digits.
use Rattle.std.proofs.Common.{◌≡◌, ℕ, ◌+◌, ◌-◌, ◌*◌, ◌^◌, ◌<◌, ◌≤◌, false, [], ◌∷◌, length, take, drop, get_or, fold, sym, ap, ◌∙◌, arith}
use Rattle.std.proofs.lemmas.List.Sums.{fold-append, fold_more}
use Rattle.std.proofs.lemmas.List.{take-append-drop}
use Rattle.std.proofs.lemmas.Bool.{le-ltb}
use Rattle.tla_lexer.specs.Signs.{Text}
use Rattle.tla_lexer.specs.Pieces.{value_of, is_small}

abbrev digit : ℕ → ℕ → ℕ
digit n b = 10 * n + (b - 48)

grows : (a : ℕ) (xs : Text) → a ≤ fold digit a xs
grows a [] = omega arith
grows a (b ∷ xs) = omega (arith, grows (digit a b) xs)

pub value-more : (run : Text) (i : ℕ) → i < length run → value_of (take (i + 1) run) ≡ 10 * value_of (take i run) + (get_or run i 0 - 48)
value-more run i h = fold_more digit 0 run i 0 h

pub value-take : (run : Text) (i : ℕ) → value_of (take i run) ≤ value_of run
value-take run i =
    let e : value_of run ≡ fold digit (value_of (take i run)) (drop i run) = ap value_of (sym (take-append-drop i run)) ∙ fold-append digit 0 (take i run) (drop i run) in
    rw e (grows (value_of (take i run)) (drop i run))

pub not_small : (run : Text) (i : ℕ) → 2 ^ 128 ≤ value_of (take i run) → is_small run ≡ false
not_small run i h = le-ltb (value_of run) (2 ^ 128) (omega (arith, value-take run i))
