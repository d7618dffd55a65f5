-- Positions that begin and move.
use Rattle.std.proofs.Common.{◌≡◌, ℕ, zero, suc, ◌<◌, inl, inr, List, length, get_or, replicate, refl, ap, sym, subst, ◌∙◌, arith}
use Rattle.std.proofs.lemmas.Bool.{cases_eq}
use Rattle.std.specs.Prelude.{slice_set}
use Rattle.std.proofs.lemmas.List.{get_or-set_same, get_or-set_other, length-set}
use Rattle.core_expr.specs.Tree.{Tree}
use Rattle.branch_state.specs.Shown.{Placed}
use Rattle.entry_positions.specs.Passed.{IsPassed, IsOpen}
use Rattle.entry_positions.proofs.OpenLaws.{open_start}
use Rattle.rank_memo.specs.declared.place.Place.{Place}
use Rattle.rank_memo.specs.declared.place.Place.TheVariants.{Closing, Plain, Rewrite, Choice, Split, TermSplit, Extension, TakeUp}
use Rattle.rank_memo.specs.Looked.{number_of, rule_at, position_at, moved, IsLooked, IsRightAt}

passed_zero : (q : Place) (ts : List Tree) (es : List Placed) → IsPassed (rule_at q) ts es 0
passed_zero q ts es = record { within = omega arith; none = λ i l m v. absurd (omega (arith, l)) }

pub looked_start : (ts : List Tree) (es : List Placed) → IsLooked ts es (replicate 8 0)
looked_start ts es = record { count = refl; shut = open_start ts es; passed = passed }
  where
    passed : (q : Place) → IsPassed (rule_at q) ts es (position_at (replicate 8 0) q)
    passed Closing = passed_zero Closing ts es
    passed Plain = passed_zero Plain ts es
    passed Rewrite = passed_zero Rewrite ts es
    passed Choice = passed_zero Choice ts es
    passed Split = passed_zero Split ts es
    passed TermSplit = passed_zero TermSplit ts es
    passed Extension = passed_zero Extension ts es
    passed TakeUp = passed_zero TakeUp ts es

-- places by their numbers

abbrev place_of : ℕ → Place
place_of zero = Closing
place_of (suc zero) = Plain
place_of (suc (suc zero)) = Rewrite
place_of (suc (suc (suc zero))) = Choice
place_of (suc (suc (suc (suc zero)))) = Split
place_of (suc (suc (suc (suc (suc zero))))) = TermSplit
place_of (suc (suc (suc (suc (suc (suc zero)))))) = Extension
place_of (suc (suc (suc (suc (suc (suc (suc n))))))) = TakeUp

place_back : (q : Place) → place_of (number_of q) ≡ q
place_back Closing = refl
place_back Plain = refl
place_back Rewrite = refl
place_back Choice = refl
place_back Split = refl
place_back TermSplit = refl
place_back Extension = refl
place_back TakeUp = refl

same_place : (q r : Place) → number_of q ≡ number_of r → q ≡ r
same_place q r e = sym (place_back q) ∙ ap place_of e ∙ place_back r

pub number_below : (q : Place) → number_of q < 8
number_below Closing = omega arith
number_below Plain = omega arith
number_below Rewrite = omega arith
number_below Choice = omega arith
number_below Split = omega arith
number_below TermSplit = omega arith
number_below Extension = omega arith
number_below TakeUp = omega arith

-- a position that moved

here : (ps : List ℕ) (q r : Place) (p : ℕ) → length ps ≡ 8 → number_of q ≡ number_of r → position_at (moved ps q p) r ≡ p
here ps q r p c e = ap (λ k. get_or (slice_set ps (number_of q) p) k 0) (sym e) ∙ get_or-set_same ps (number_of q) p 0 (omega (arith, c, number_below q))

there : (ps : List ℕ) (q r : Place) (p : ℕ) → (number_of r ≡ number_of q → ⊥) → position_at (moved ps q p) r ≡ position_at ps r
there ps q r p n = get_or-set_other ps (number_of q) (number_of r) p 0 n

right_passed : (ts : List Tree) (es : List Placed) (q : Place) (p : ℕ) → IsRightAt ts es q p → IsPassed (rule_at q) ts es p
right_passed ts es Closing p h = record { within = h.within; none = λ i l m v. refl }
right_passed ts es Plain p h = h
right_passed ts es Rewrite p h = h
right_passed ts es Choice p h = h
right_passed ts es Split p h = h
right_passed ts es TermSplit p h = h
right_passed ts es Extension p h = h
right_passed ts es TakeUp p h = h

pub looked_moved : (ts : List Tree) (es : List Placed) (ps : List ℕ) (q : Place) (p : ℕ) → IsLooked ts es ps → IsRightAt ts es q p → IsLooked ts es (moved ps q p)
looked_moved ts es ps q p h k = record { count = length-set ps (number_of q) p ∙ h.count; shut = shut; passed = passed }
  where
    shut : IsOpen ts es (position_at (moved ps q p) Closing)
    shut =
        elim (cases_eq (number_of q) 0) [
          | inl e ↦ subst (IsOpen ts es) (sym (here ps q Closing p h.count e)) (subst (λ r. IsRightAt ts es r p) (same_place q Closing e) k)
          | inr n ↦ subst (IsOpen ts es) (sym (there ps q Closing p (λ e. n (sym e)))) h.shut
        ]

    passed : (r : Place) → IsPassed (rule_at r) ts es (position_at (moved ps q p) r)
    passed r =
        elim (cases_eq (number_of q) (number_of r)) [
          | inl e ↦ subst (IsPassed (rule_at r) ts es) (sym (here ps q r p h.count e)) (subst (λ x. IsPassed (rule_at x) ts es p) (same_place q r e) (right_passed ts es q p k))
          | inr n ↦ subst (IsPassed (rule_at r) ts es) (sym (there ps q r p (λ e. n (sym e)))) (h.passed r)
        ]
