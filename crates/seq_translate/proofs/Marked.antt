-- Marks by numbers are marks of formulas.
use Rattle.std.specs.Prelude.{◌≡◌, ℕ, ◌<◌, Bool, true, false, ◌||◌, nat_eq, List, [], ◌∷◌, length}
use Rattle.std.specs.List.{fold}
use Rattle.std.proofs.Common.{get_or, set, refl, ap, sym, ◌∙◌, subst, arith, eq-eqb}
use Rattle.std.proofs.lemmas.Bool.{eqb-true, true≢false}
use Rattle.std.proofs.lemmas.List.{get_or_default, get_or-set_other, get_or-set_same, length-set}
use Rattle.core_expr.specs.Tree.{Tree, true_}
use Rattle.core_expr.specs.Terms.{same}
use Rattle.core_expr.specs.Nodes.{AreBelow, picked}
use Rattle.core_expr.proofs.Equal.{same-true, same-refl}
use Rattle.search_definition.specs.Terms.{if_so, either, in_list}
use Rattle.term_bank.specs.Banks.{IsDistinct}
use Rattle.proof_trees.specs.Machine.{marked, unmarked, some}
use Rattle.seq_translate.specs.Marks.{set_marks, clear_marks, any_mark, or_mark, AreMarks}

module _ (ts : List Tree) (distinct : IsDistinct ts) where
  differs : (a i : ℕ) → a < length ts → i < length ts → nat_eq i a ≡ false → same (get_or ts a true_) (get_or ts i true_) ≡ false
  differs a i l k e = go (same (get_or ts a true_) (get_or ts i true_)) refl
    where
      go : (x : Bool) → same (get_or ts a true_) (get_or ts i true_) ≡ x → same (get_or ts a true_) (get_or ts i true_) ≡ false
      go true s = absurd (true≢false (sym (eq-eqb i a (sym (distinct a i l k (same-true (get_or ts a true_) (get_or ts i true_) s)))) ∙ e))
      go false s = s

  -- one place marked is one formula marked
  set-one : (m : List Bool) (f : Tree → Bool) (a : ℕ) → a < length ts → AreMarks ts m f → AreMarks ts (set m a true) (marked f (get_or ts a true_ ∷ []))
  set-one m f a l h = (length-set m a true ∙ h.0, λ i k. go i k (nat_eq i a) refl)
    where
      value : Bool → Tree → Bool
      value x t = either x false || f t

      go : (i : ℕ) → i < length ts → (x : Bool) → nat_eq i a ≡ x → get_or (set m a true) i true ≡ value (same (get_or ts a true_) (get_or ts i true_)) (get_or ts i true_)
      go i k true e =
          let q : i ≡ a = eqb-true i a e in
          ap (λ j. get_or (set m a true) j true) q ∙ get_or-set_same m a true true (omega (arith, h.0))
          ∙ sym (ap (λ j. value (same (get_or ts a true_) (get_or ts j true_)) (get_or ts j true_)) q ∙ ap (λ x. value x (get_or ts a true_)) (same-refl (get_or ts a true_)))
      go i k false e =
          get_or-set_other m a i true true (λ q. true≢false (sym (eq-eqb i a q) ∙ e)) ∙ h.1 i k ∙ sym (ap (λ x. value x (get_or ts i true_)) (differs a i l k e))

  clear-one : (m : List Bool) (f : Tree → Bool) (a : ℕ) → a < length ts → AreMarks ts m f → AreMarks ts (set m a false) (unmarked f (get_or ts a true_ ∷ []))
  clear-one m f a l h = (length-set m a false ∙ h.0, λ i k. go i k (nat_eq i a) refl)
    where
      value : Bool → Tree → Bool
      value x t = if_so (either x false) false (f t)

      go : (i : ℕ) → i < length ts → (x : Bool) → nat_eq i a ≡ x → get_or (set m a false) i true ≡ value (same (get_or ts a true_) (get_or ts i true_)) (get_or ts i true_)
      go i k true e =
          let q : i ≡ a = eqb-true i a e in
          ap (λ j. get_or (set m a false) j true) q ∙ get_or-set_same m a false true (omega (arith, h.0))
          ∙ sym (ap (λ j. value (same (get_or ts a true_) (get_or ts j true_)) (get_or ts j true_)) q ∙ ap (λ x. value x (get_or ts a true_)) (same-refl (get_or ts a true_)))
      go i k false e =
          get_or-set_other m a i false true (λ q. true≢false (sym (eq-eqb i a q) ∙ e)) ∙ h.1 i k ∙ sym (ap (λ x. value x (get_or ts i true_)) (differs a i l k e))

  -- the same marks, told otherwise
  same-marks : (m : List Bool) (f g : Tree → Bool) → ((t : Tree) → f t ≡ g t) → AreMarks ts m f → AreMarks ts m g
  same-marks m f g e h = (h.0, λ i k. h.1 i k ∙ e (get_or ts i true_))

  pub set-all : (m : List Bool) (f : Tree → Bool) (is : List ℕ) → AreBelow (length ts) is → AreMarks ts m f → AreMarks ts (set_marks m is) (marked f (picked ts is))
  set-all m f [] b h = h
  set-all m f (a ∷ is) b h =
      same-marks (set_marks (set m a true) is) (marked (marked f (get_or ts a true_ ∷ [])) (picked ts is)) (marked f (picked ts (a ∷ is)))
      (λ t. order (in_list (picked ts is) t) (same (get_or ts a true_) t) (f t)) (set-all (set m a true) (marked f (get_or ts a true_ ∷ [])) is b.1 (set-one m f a b.0 h))
    where
      order : (x y z : Bool) → (x || (either y false || z)) ≡ (either y x || z)
      order true true z = refl
      order true false z = refl
      order false true z = refl
      order false false z = refl

  pub clear-all : (m : List Bool) (f : Tree → Bool) (is : List ℕ) → AreBelow (length ts) is → AreMarks ts m f → AreMarks ts (clear_marks m is) (unmarked f (picked ts is))
  clear-all m f [] b h = h
  clear-all m f (a ∷ is) b h =
      same-marks (clear_marks (set m a false) is) (unmarked (unmarked f (get_or ts a true_ ∷ [])) (picked ts is)) (unmarked f (picked ts (a ∷ is)))
      (λ t. order (in_list (picked ts is) t) (same (get_or ts a true_) t) (f t)) (clear-all (set m a false) (unmarked f (get_or ts a true_ ∷ [])) is b.1 (clear-one m f a b.0 h))
    where
      order : (x y z : Bool) → if_so x false (if_so (either y false) false z) ≡ if_so (either y x) false z
      order true true z = refl
      order true false z = refl
      order false true z = refl
      order false false z = refl

  any-from : (m : List Bool) (f : Tree → Bool) (is : List ℕ) (x : Bool) → AreBelow (length ts) is → AreMarks ts m f → fold (or_mark m) x is ≡ (x || some f (picked ts is))
  any-from m f [] x b h = end x
    where
      end : (x : Bool) → x ≡ (x || false)
      end true = refl
      end false = refl
  any-from m f (a ∷ is) x b h =
      any-from m f is (or_mark m x a) b.1 h ∙ ap (λ y. (x || y) || some f (picked ts is)) (get_or_default m a false true (subst (λ n. a < n) (sym h.0) b.0) ∙ h.1 a b.0) ∙ assoc x (f (get_or ts a true_)) (some f (picked ts is))
    where
      assoc : (x y z : Bool) → ((x || y) || z) ≡ (x || (y || z))
      assoc true y z = refl
      assoc false y z = refl

  pub any-some : (m : List Bool) (f : Tree → Bool) (is : List ℕ) → AreBelow (length ts) is → AreMarks ts m f → any_mark m is ≡ some f (picked ts is)
  any-some m f is b h = any-from m f is false b h
