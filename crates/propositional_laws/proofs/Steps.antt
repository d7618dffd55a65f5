-- What a rule of the ranks plain, settle and split does to a propositional formula.
use Rattle.std.specs.Prelude.{◌≡◌, ◌⊎◌, ℕ, ◌<◌, Bool, true, false, List, [], ◌∷◌}
use Rattle.std.proofs.Common.{refl, sym, ◌∙◌, arith, inl, inr}
use Rattle.core_expr.specs.Tree.{Tree, not_, and_, or_, imp_}
use Rattle.seq_calculus.specs.Calculus.{Has, HasAll}
use Rattle.valuation.specs.Truth.{Valuation, value_under, AllHold, all_hold, both, negated, one_holds, agreeing}
use Rattle.search_definition.specs.declared.rule.Rule.{Rule}
use Rattle.search_definition.specs.declared.rule.Rule.TheVariants.{DoubleNot, Conjunction, DeniedDisjunction, DeniedImplication}
use Rattle.search_definition.specs.Terms.{either, when}
use Rattle.search_definition.specs.Branches.{Branch, formulas}
use Rattle.search_definition.specs.Values.{truth, all_yes, some_no}
use Rattle.search_definition.specs.Rules.{Sides, Step, stays, stays_second}
use Rattle.search_definition.specs.Rules.Sides.{Alone, Both}
use Rattle.search_definition.specs.Plain.{plain}
use Rattle.search_definition.specs.Splits.{Splitting, splitting, split_as, split, Settled, settled, settle_as, settle_split, settle}
use Rattle.search_definition.specs.Splits.Settled.{OneTrue, LeftFalse, RightFalse}
use Rattle.search_definition.proofs.Standing.{Holds, or-holds, after-holds}
use Rattle.search_definition.proofs.Uses.{either-one}
use Rattle.propositional_laws.specs.Formulas.{Formula, Formulas}
use Rattle.propositional_laws.specs.Formulas.Formula.{f_true, f_false, f_symbol, f_not, f_and, f_or, f_imp, f_iff}
use Rattle.propositional_laws.proofs.Forms.{both-hold, weight, weights, weight-le}
use Rattle.propositional_laws.proofs.Values.{one-right, all-hold, some-fails, TrueBelow, yes-hold}

-- the branch c has all formulas of b
abbrev pub Within : Branch → Branch → Type 0
Within b c = (f : Tree) → Has (formulas b) f → Has (formulas c) f

-- why a used formula needs no more: it is true where the lighter formulas on the branch are
abbrev pub Why : Branch → Tree → Type 0
Why b f = (v : Valuation) → TrueBelow v b (weight f) → value_under v f ≡ true

-- What is added where f on the branch b is used: lighter formulas, which explain f on each branch that grows from b and has them.
pub record Side (b : Branch) (f : Tree) (fs : List Tree) : Type 0 where
  pub formed : Formulas fs
  pub lighter : weights fs < weight f
  pub explains : (c : Branch) → Within b c → HasAll (formulas c) fs → Why c f

abbrev pub Sided : Branch → Tree → Sides → Type 0
Sided b f (Alone fs) = Side b f fs
Sided b f (Both fs gs) = Side b f fs × Side b f gs

-- all formulas of some side hold
abbrev pub SomeHold : Valuation → Sides → Type 0
SomeHold v (Alone fs) = AllHold v fs
SomeHold v (Both fs gs) = AllHold v fs ⊎ AllHold v gs

-- What a step does to f on the branch b: f dies on each side, and where all that it names holds, some side does.
pub record Does (b : Branch) (f : Tree) (s : Step) : Type 0 where
  pub dies : stays s.rule ≡ false
  pub dies_second : stays_second s.rule ≡ false
  pub sides : Sided b f s.sides
  pub tells : (v : Valuation) → AllHold v s.named → SomeHold v s.sides

lighter-hold : (v : Valuation) (c : Branch) (n : ℕ) (fs : List Tree) → HasAll (formulas c) fs → weights fs < n → TrueBelow v c n → all_hold v fs ≡ true
lighter-hold v c n [] h l t = refl
lighter-hold v c n (f ∷ fs) h l t = both-hold (value_under v f) (all_hold v fs) (t f h.0 (omega (arith, l))) (lighter-hold v c n fs h.1 (omega (arith, l)) t)

-- formulas that make f true
side : (b : Branch) (f : Tree) (fs : List Tree) → Formulas fs → weights fs < weight f → ((v : Valuation) → all_hold v fs ≡ true → value_under v f ≡ true) → Side b f fs
side b f fs p l k = record { formed = p; lighter = l; explains = λ c w h v t. k v (lighter-hold v c (weight f) fs h l t) }

-- two functions of truth values that agree at each
same-at : (f g : Bool → Bool → Bool) → f true true ≡ g true true → f true false ≡ g true false → f false true ≡ g false true → f false false ≡ g false false → (x y : Bool) → f x y ≡ g x y
same-at f g h i j k true true = h
same-at f g h i j k true false = i
same-at f g h i j k false true = j
same-at f g h i j k false false = k

-- rank plain
alone : (b : Branch) (f : Tree) (r : Rule) (fs : List Tree) → stays r ≡ false → stays_second r ≡ false → Formulas fs → weights fs < weight f → ((v : Valuation) → value_under v f ≡ all_hold v fs)
    → Does b f (record { rule = r; named = f ∷ []; terms = []; sides = Alone fs })
alone b f r fs d e p l k = record { dies = d; dies_second = e; sides = side b f fs p l (λ v h. k v ∙ h); tells = λ v h. all-hold v fs (sym (k v) ∙ h.0) }

pub plain-does : (b : Branch) (f : Tree) → Formula f → Holds (Does b f) (plain f)
plain-does b _ f_true = tt
plain-does b _ f_false = tt
plain-does b _ (f_symbol s) = tt
plain-does b _ (f_not f_true) = tt
plain-does b _ (f_not f_false) = tt
plain-does b _ (f_not (f_symbol s)) = tt
plain-does b _ (f_not (f_not {a} p)) =
    alone b (not_ (not_ a)) DoubleNot (a ∷ []) refl refl (p, tt) (omega (arith, weight-le a))
    (λ v. same-at (λ x y. negated (negated x)) (λ x y. both x true) refl refl refl refl (value_under v a) true)
plain-does b _ (f_not (f_and p q)) = tt
plain-does b _ (f_not (f_or {a} {b = c} p q)) =
    alone b (not_ (or_ a c)) DeniedDisjunction (not_ a ∷ not_ c ∷ []) refl refl (f_not p, (f_not q, tt)) (omega arith)
    (λ v. same-at (λ x y. negated (one_holds x y)) (λ x y. both (negated x) (both (negated y) true)) refl refl refl refl (value_under v a) (value_under v c))
plain-does b _ (f_not (f_imp {a} {b = c} p q)) =
    alone b (not_ (imp_ a c)) DeniedImplication (a ∷ not_ c ∷ []) refl refl (p, (f_not q, tt)) (omega (arith, weight-le a))
    (λ v. same-at (λ x y. negated (one_holds (negated x) y)) (λ x y. both x (both (negated y) true)) refl refl refl refl (value_under v a) (value_under v c))
plain-does b _ (f_not (f_iff p q)) = tt
plain-does b _ (f_and {a} {b = c} p q) =
    alone b (and_ a c) Conjunction (a ∷ c ∷ []) refl refl (p, (q, tt)) (omega (arith, weight-le a, weight-le c))
    (λ v. same-at both (λ x y. both x (both y true)) refl refl refl refl (value_under v a) (value_under v c))
plain-does b _ (f_or p q) = tt
plain-does b _ (f_imp p q) = tt
plain-does b _ (f_iff p q) = tt

-- What a splitting is: f says that one of two sides of lighter formulas holds.
record Splits (f : Tree) (s : Splitting) : Type 0 where
  dies : stays s.rule ≡ false
  dies_second : stays_second s.rule ≡ false
  left : Formulas s.left
  right : Formulas s.right
  lighter_left : weights s.left < weight f
  lighter_right : weights s.right < weight f
  is : (v : Valuation) → value_under v f ≡ one_holds (all_hold v s.left) (all_hold v s.right)

splitting-is : (f : Tree) → Formula f → Holds (Splits f) (splitting f)
splitting-is _ f_true = tt
splitting-is _ f_false = tt
splitting-is _ (f_symbol s) = tt
splitting-is _ (f_not f_true) = tt
splitting-is _ (f_not f_false) = tt
splitting-is _ (f_not (f_symbol s)) = tt
splitting-is _ (f_not (f_not p)) = tt
splitting-is _ (f_not (f_and {a} {b} p q)) =
    record {
      dies = refl;
      dies_second = refl;
      left = (f_not p, tt);
      right = (f_not q, tt);
      lighter_left = omega arith;
      lighter_right = omega arith;
      is = λ v. same-at (λ x y. negated (both x y)) (λ x y. one_holds (both (negated x) true) (both (negated y) true)) refl refl refl refl (value_under v a) (value_under v b);
    }
splitting-is _ (f_not (f_or p q)) = tt
splitting-is _ (f_not (f_imp p q)) = tt
splitting-is _ (f_not (f_iff {a} {b} p q)) =
    record {
      dies = refl;
      dies_second = refl;
      left = (p, (f_not q, tt));
      right = (f_not p, (q, tt));
      lighter_left = omega (arith, weight-le a);
      lighter_right = omega (arith, weight-le b);
      is = λ v. same-at (λ x y. negated (agreeing x y)) (λ x y. one_holds (both x (both (negated y) true)) (both (negated x) (both y true))) refl refl refl refl (value_under v a) (value_under v b);
    }
splitting-is _ (f_and p q) = tt
splitting-is _ (f_or {a} {b} p q) =
    record {
      dies = refl;
      dies_second = refl;
      left = (p, tt);
      right = (q, tt);
      lighter_left = omega (arith, weight-le a);
      lighter_right = omega (arith, weight-le b);
      is = λ v. same-at one_holds (λ x y. one_holds (both x true) (both y true)) refl refl refl refl (value_under v a) (value_under v b);
    }
splitting-is _ (f_imp {a} {b} p q) =
    record {
      dies = refl;
      dies_second = refl;
      left = (f_not p, tt);
      right = (q, tt);
      lighter_left = omega arith;
      lighter_right = omega (arith, weight-le b);
      is = λ v. same-at (λ x y. one_holds (negated x) y) (λ x y. one_holds (both (negated x) true) (both y true)) refl refl refl refl (value_under v a) (value_under v b);
    }
splitting-is _ (f_iff {a} {b} p q) =
    record {
      dies = refl;
      dies_second = refl;
      left = (p, (q, tt));
      right = (f_not p, (f_not q, tt));
      lighter_left = omega (arith, weight-le a, weight-le b);
      lighter_right = omega arith;
      is = λ v. same-at agreeing (λ x y. one_holds (both x (both y true)) (both (negated x) (both (negated y) true))) refl refl refl refl (value_under v a) (value_under v b);
    }

one-left : (x y : Bool) → x ≡ true → one_holds x y ≡ true
one-left true y h = refl
one-left false y h = cc

one-cases : (x y : Bool) → one_holds x y ≡ true → (x ≡ true) ⊎ (y ≡ true)
one-cases true y h = inl refl
one-cases false y h = inr h

left-over : (x y : Bool) → y ≡ false → one_holds x y ≡ true → x ≡ true
left-over true y e h = refl
left-over false y e h = cc

right-over : (x y : Bool) → x ≡ false → one_holds x y ≡ true → y ≡ true
right-over true y e h = cc
right-over false y e h = h

module _ (b : Branch) (f : Tree) (s : Splitting) (k : Splits f s) where
  left-true : (v : Valuation) → all_hold v s.left ≡ true → value_under v f ≡ true
  left-true v h = k.is v ∙ one-left (all_hold v s.left) (all_hold v s.right) h

  right-true : (v : Valuation) → all_hold v s.right ≡ true → value_under v f ≡ true
  right-true v h = k.is v ∙ one-right (all_hold v s.left) (all_hold v s.right) h

  left-side : Side b f s.left
  left-side = side b f s.left k.left k.lighter_left left-true

  right-side : Side b f s.right
  right-side = side b f s.right k.right k.lighter_right right-true

  -- f holds, so a side does
  some-side : (v : Valuation) → value_under v f ≡ true → one_holds (all_hold v s.left) (all_hold v s.right) ≡ true
  some-side v h = sym (k.is v) ∙ h

  -- why values settle the splitting
  abbrev Reason : Settled → Type 0
  Reason OneTrue = (all_yes (truth b) s.left ≡ true) ⊎ (all_yes (truth b) s.right ≡ true)
  Reason LeftFalse = some_no (truth b) s.left ≡ true
  Reason RightFalse = some_no (truth b) s.right ≡ true

  when-holds : (x : Bool) (t : Settled) → (x ≡ true → Reason t) → Holds Reason (when x t)
  when-holds true t h = h refl
  when-holds false t h = tt

  has-reason : Holds Reason (settled (truth b) s)
  has-reason =
      or-holds Reason (when (either (all_yes (truth b) s.left) (all_yes (truth b) s.right)) OneTrue) _
      (when-holds (either (all_yes (truth b) s.left) (all_yes (truth b) s.right)) OneTrue (either-one (all_yes (truth b) s.left) (all_yes (truth b) s.right)))
      (or-holds Reason (when (some_no (truth b) s.left) LeftFalse) (when (some_no (truth b) s.right) RightFalse) (when-holds (some_no (truth b) s.left) LeftFalse (λ e. e)) (when-holds (some_no (truth b) s.right) RightFalse (λ e. e)))

  -- a side is true on the branch already
  nothing-more : Reason OneTrue → Side b f []
  nothing-more r =
      record {
        formed = tt;
        lighter = let l : weights s.left < weight f = k.lighter_left in omega arith;
        explains = λ c w h v t. let u : TrueBelow v b (weight f) = λ g m l. t g (w g m) l in elim r [
          | inl e ↦ left-true v (yes-hold v b (weight f) s.left k.left k.lighter_left e u)
          | inr e ↦ right-true v (yes-hold v b (weight f) s.right k.right k.lighter_right e u)
        ];
      }

  by-reason : (t : Settled) → Reason t → Holds (Does b f) (settle_as b f s t)
  by-reason OneTrue r = record { dies = refl; dies_second = refl; sides = nothing-more r; tells = λ v h. tt }
  by-reason LeftFalse r =
      record {
        dies = refl;
        dies_second = refl;
        sides = right-side;
        tells = λ v h. all-hold v s.right (right-over (all_hold v s.left) (all_hold v s.right) (some-fails v b s.left k.left r h.1) (some-side v h.0));
      }
  by-reason RightFalse r =
      record {
        dies = refl;
        dies_second = refl;
        sides = left-side;
        tells = λ v h. all-hold v s.left (left-over (all_hold v s.left) (all_hold v s.right) (some-fails v b s.right k.right r h.1) (some-side v h.0));
      }

  settles : Holds (Does b f) (settle_split b f s)
  settles = after-holds (Does b f) (settle_as b f s) Reason by-reason (settled (truth b) s) has-reason

  divides : Holds (Does b f) (split_as f s)
  divides =
      record {
        dies = k.dies;
        dies_second = k.dies_second;
        sides = (left-side, right-side);
        tells = λ v h. elim (one-cases (all_hold v s.left) (all_hold v s.right) (some-side v h.0)) [ inl e ↦ inl (all-hold v s.left e) | inr e ↦ inr (all-hold v s.right e) ];
      }

pub settle-does : (b : Branch) (f : Tree) → Formula f → Holds (Does b f) (settle b f)
settle-does b f p = after-holds (Does b f) (settle_split b f) (Splits f) (settles b f) (splitting f) (splitting-is f p)

pub split-does : (b : Branch) (f : Tree) → Formula f → Holds (Does b f) (split f)
split-does b f p = after-holds (Does b f) (split_as f) (Splits f) (divides b f) (splitting f) (splitting-is f p)
