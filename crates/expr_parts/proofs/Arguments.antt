-- The argument for a variable.
use Rattle.std.proofs.Common.{◌≡◌, ℕ, suc, ◌-◌, ◌<◌, ◌≤◌, true, false, nat_eq, List, [], ◌∷◌, length, slice_index_or, refl, ap, arith, inl, inr}
use Rattle.std.proofs.lemmas.Bool.Decides.{nat_tests}
use Rattle.std.proofs.lemmas.Bool.{cases_lt}
use Rattle.core_expr.specs.Tree.{Tree, size, true_}
use Rattle.core_expr.specs.Heads.{parts_of}
use Rattle.core_expr.specs.Put.{argument}

size-parts_of : (ts : List Tree) → size (parts_of ts) ≡ length ts
size-parts_of [] = refl
size-parts_of (t ∷ ts) = ap suc (size-parts_of ts)

pub argument_past : (ts : List Tree) (i : ℕ) → length ts ≤ i → argument (parts_of ts) i ≡ true_
argument_past [] i h = refl
argument_past (t ∷ ts) i h =
    let n : nat_eq i (size (parts_of ts)) ≡ false = grind (arith, nat_tests, size-parts_of ts) in rw n (argument_past ts i (omega arith))

pub argument_at : (ts : List Tree) (i : ℕ) (d : Tree) → i < length ts → slice_index_or ts (length ts - 1 - i) d ≡ argument (parts_of ts) i
argument_at [] i d h = absurd (omega arith)
argument_at (t ∷ ts) i d h =
    elim (cases_lt i (length ts)) [
      | inl l ↦
          let n : nat_eq i (size (parts_of ts)) ≡ false = grind (arith, nat_tests, size-parts_of ts) in
          let k : suc (length ts) - 1 - i ≡ suc (length ts - 1 - i) = omega (arith, l) in
          rw (n, k) (argument_at ts i d l)
      | inr g ↦
          let n : nat_eq i (size (parts_of ts)) ≡ true = grind (arith, nat_tests, size-parts_of ts, g, h) in
          let k : suc (length ts) - 1 - i ≡ 0 = omega (arith, g, h) in
          rw (n, k) refl
    ]
