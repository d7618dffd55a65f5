-- What is left of two lists behind the end of the shorter.
use Rattle.std.specs.Prelude.{◌≡◌, ℕ, zero, suc, ◌≤◌, min, Bool, List, [], ◌∷◌, map, drop, length, Option}
use Rattle.std.proofs.Common.{refl, arith}
use Rattle.core_expr.specs.declared.head.Sym.{Sym}
use Rattle.symbol_table.specs.declared.entry.Entry.{Entry}
use Rattle.proof_cache.specs.declared.verdict.Verdict.{Verdict}
use Rattle.tla_io.specs.Told.{Bytes}
use Rattle.leaf_jobs.specs.Values.{more_values}
use Rattle.leaf_jobs.specs.Filling.{shown_all}

pair-ends : {A B C : Type 0} (F : List A → List B → C) (z : C) → ((ys : List B) → F [] ys ≡ z) → ((x : A) (xs : List A) → F (x ∷ xs) [] ≡ z) → (xs : List A) (ys : List B) (i : ℕ)
    → min (length xs) (length ys) ≤ i → F (drop i xs) (drop i ys) ≡ z
pair-ends F z p q [] ys zero l = p ys
pair-ends F z p q [] ys (suc i) l = p (drop (suc i) ys)
pair-ends F z p q (x ∷ xs) [] zero l = q x xs
pair-ends {A = A} F z p q (x ∷ xs) [] (suc i) l = none (drop i xs)
  where
    none : (xs : List A) → F xs [] ≡ z
    none [] = p []
    none (x ∷ xs) = q x xs
pair-ends F z p q (x ∷ xs) (y ∷ ys) zero l = absurd (omega arith)
pair-ends F z p q (x ∷ xs) (y ∷ ys) (suc i) l = pair-ends F z p q xs ys i (omega arith)

pub more_ends : {A : Type 0} (n : A → Bytes) (ps : List A) (vs : List Bool) (i : ℕ) → min (length ps) (length vs) ≤ i → more_values (map n (drop i ps)) (drop i vs) ≡ []
more_ends n ps vs i l = pair-ends (λ rest. more_values (map n rest)) [] (λ _. refl) (λ _ _. refl) ps vs i l

pub shown_ends : (es : List Entry) (verdicts : List (Option Verdict)) (ns : List (List Sym)) (js : List ℕ) (i : ℕ) → min (length ns) (length js) ≤ i
    → shown_all es verdicts (drop i ns) (drop i js) ≡ []
shown_ends es verdicts ns js i l = pair-ends (shown_all es verdicts) [] (λ _. refl) (λ _ _. refl) ns js i l
