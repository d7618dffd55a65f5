-- Values on a branch say what is so under a valuation that makes true what they rest on.
use Rattle.std.specs.Prelude.{◌≡◌, ℕ, suc, ◌+◌, ◌<◌, ◌≤◌, Bool, true, false, List, [], ◌∷◌, ◌++◌}
use Rattle.std.proofs.Common.{refl, ap, sym, arith, subst}
use Rattle.core_expr.specs.Tree.{Tree, true_, false_, not_, and_, or_, imp_, iff_}
use Rattle.core_expr.specs.Tree.Tree.{app}
use Rattle.core_expr.specs.Tree.Parts.{end}
use Rattle.core_expr.specs.Terms.{same}
use Rattle.core_expr.proofs.Equal.{same-true}
use Rattle.seq_calculus.specs.Calculus.{Has}
use Rattle.valuation.specs.Truth.{Valuation, value_under, AllHold, all_hold, both, negated, one_holds, agreeing}
use Rattle.search_definition.specs.Terms.{if_so, either, in_list}
use Rattle.search_definition.specs.Branches.{Branch, formulas, has}
use Rattle.search_definition.specs.Values.{Truth, Whole, truth, grounds, truth_by, grounds_by, opposite, both_true, one_true, implied, same_truth, merged, where_known, is_yes, is_no, all_yes, some_no, first_no}
use Rattle.search_definition.specs.Values.Truth.{Yes, No, Unknown}
use Rattle.search_definition.specs.Values.Whole.{Stands, ByItself, NotStands, FalseItself, Undecided}
use Rattle.search_definition.proofs.Standing.{has-stands}
use Rattle.propositional_laws.specs.Formulas.{Formula, Formulas, connectives}
use Rattle.propositional_laws.specs.Formulas.Formula.{f_true, f_false, f_symbol, f_not, f_and, f_or, f_imp, f_iff}
use Rattle.propositional_laws.specs.Laws.{TestsFalsifies}
use Rattle.propositional_laws.proofs.Forms.{both-split, both-hold, weight, weights, weight-le}

-- truth values
pub negated-false : (x : Bool) → negated x ≡ true → x ≡ false
negated-false true h = cc
negated-false false h = refl

both-false : (x y : Bool) → y ≡ false → both x y ≡ false
both-false true y h = h
both-false false y h = refl

pub one-right : (x y : Bool) → y ≡ true → one_holds x y ≡ true
one-right true y h = refl
one-right false y h = h

-- a value that says something says what is so
abbrev pub Agrees : Truth → Bool → Type 0
Agrees Yes x = x ≡ true
Agrees No x = x ≡ false
Agrees Unknown x = Unit {0}

opposite-agrees : (t : Truth) (x : Bool) → Agrees t x → Agrees (opposite t) (negated x)
opposite-agrees Yes x h = ap negated h
opposite-agrees No x h = ap negated h
opposite-agrees Unknown x h = tt

-- op says of values what test says of truth values
abbrev Sound : (Truth → Truth → Truth) → (Bool → Bool → Bool) → Type 0
Sound op test = (s t : Truth) (x y : Bool) → Agrees s x → Agrees t y → Agrees (op s t) (test x y)

both-agrees : Sound both_true both
both-agrees Yes Yes x y h k = both-hold x y h k
both-agrees Yes No x y h k = both-false x y k
both-agrees Yes Unknown x y h k = tt
both-agrees No t x y h k = ap (λ z. both z y) h
both-agrees Unknown Yes x y h k = tt
both-agrees Unknown No x y h k = both-false x y k
both-agrees Unknown Unknown x y h k = tt

one-agrees : Sound one_true one_holds
one-agrees Yes t x y h k = ap (λ z. one_holds z y) h
one-agrees No Yes x y h k = one-right x y k
one-agrees No No x y h k = λ i. one_holds (h i) (k i)
one-agrees No Unknown x y h k = tt
one-agrees Unknown Yes x y h k = one-right x y k
one-agrees Unknown No x y h k = tt
one-agrees Unknown Unknown x y h k = tt

implied-agrees : Sound implied (λ x y. one_holds (negated x) y)
implied-agrees s t x y h k = one-agrees (opposite s) t (negated x) y (opposite-agrees s x h) k

same-agrees : Sound same_truth agreeing
same-agrees Yes Yes x y h k = λ i. agreeing (h i) (k i)
same-agrees Yes No x y h k = λ i. agreeing (h i) (k i)
same-agrees Yes Unknown x y h k = tt
same-agrees No Yes x y h k = λ i. agreeing (h i) (k i)
same-agrees No No x y h k = λ i. agreeing (h i) (k i)
same-agrees No Unknown x y h k = tt
same-agrees Unknown t x y h k = tt

-- the reasons that a propositional formula can have as a whole; u is that where neither it nor its Not stands on the branch
abbrev whole_by : Bool → Bool → Whole → Whole
whole_by x y u = if_so x Stands (if_so y NotStands u)

module _ (v : Valuation) where
  pub hold-at : (fs : List Tree) (f : Tree) → AllHold v fs → in_list fs f ≡ true → value_under v f ≡ true
  hold-at [] f h k = cc
  hold-at (g ∷ fs) f h k = go (same g f) refl (hold-at fs f h.1) k
    where
      go : (x : Bool) → same g f ≡ x → (in_list fs f ≡ true → value_under v f ≡ true) → either x (in_list fs f) ≡ true → value_under v f ≡ true
      go true e ih k = subst (λ z. value_under v z ≡ true) (same-true g f e) h.0
      go false e ih k = ih k

  pub hold-split : (fs gs : List Tree) → AllHold v (fs ++ gs) → AllHold v fs × AllHold v gs
  hold-split [] gs h = (tt, h)
  hold-split (f ∷ fs) gs h = let t = hold-split fs gs h.1 in ((h.0, t.0), t.1)

  pub all-hold : (fs : List Tree) → all_hold v fs ≡ true → AllHold v fs
  all-hold [] h = tt
  all-hold (f ∷ fs) h = let k = both-split (value_under v f) (all_hold v fs) h in (k.0, all-hold fs k.1)

  hold-all : (fs : List Tree) → AllHold v fs → all_hold v fs ≡ true
  hold-all [] h = refl
  hold-all (f ∷ fs) h = both-hold (value_under v f) (all_hold v fs) h.0 (hold-all fs h.1)

  merged-split : (xs ys : List Tree) → AllHold v (merged xs ys) → AllHold v xs × AllHold v ys
  merged-split xs [] h = (h, tt)
  merged-split xs (y ∷ ys) h = go (in_list xs y) refl (merged-split xs ys) (merged-split (xs ++ y ∷ []) ys) h
    where
      go : (b : Bool) → in_list xs y ≡ b → (AllHold v (merged xs ys) → AllHold v xs × AllHold v ys) → (AllHold v (merged (xs ++ y ∷ []) ys) → AllHold v (xs ++ y ∷ []) × AllHold v ys)
          → AllHold v (if_so b (merged xs ys) (merged (xs ++ y ∷ []) ys)) → AllHold v xs × AllHold v (y ∷ ys)
      go true e p q h = let k = p h in (k.0, (hold-at xs y k.0 e, k.1))
      go false e p q h = let k = q h in let m = hold-split xs (y ∷ []) k.0 in (m.0, (m.1.0, k.1))

  -- by what a value rests on
  by-whole : (f : Tree) (t : Truth) (gs : List Tree) (u : Whole) (x y : Bool) → (AllHold v (grounds_by u f gs) → Agrees (truth_by u t) (value_under v f))
      → AllHold v (grounds_by (whole_by x y u) f gs) → Agrees (truth_by (whole_by x y u) t) (value_under v f)
  by-whole f t gs u true y k h = h.0
  by-whole f t gs u false true k h = negated-false (value_under v f) h.0
  by-whole f t gs u false false k h = k h

  -- the value of b says what is so of f where its grounds hold
  abbrev Told : Branch → Tree → Type 0
  Told b f = AllHold v (grounds b f) → Agrees (truth b f) (value_under v f)

  known-told : (t : Truth) (gs : List Tree) (x : Bool) → (AllHold v gs → Agrees t x) → AllHold v (where_known t gs) → Agrees t x
  known-told Yes gs x k h = k h
  known-told No gs x k h = k h
  known-told Unknown gs x k h = tt

  joined-told : (op : Truth → Truth → Truth) (test : Bool → Bool → Bool) → Sound op test → (b : Branch) (f a c : Tree) → value_under v f ≡ test (value_under v a) (value_under v c) → Told b a → Told b c
      → (x y : Bool) → AllHold v (grounds_by (whole_by x y Undecided) f (where_known (op (truth b a) (truth b c)) (merged (grounds b a) (grounds b c))))
      → Agrees (truth_by (whole_by x y Undecided) (op (truth b a) (truth b c))) (value_under v f)
  joined-told op test s b f a c e p q x y =
      by-whole f (op (truth b a) (truth b c)) (where_known (op (truth b a) (truth b c)) (merged (grounds b a) (grounds b c))) Undecided x y
      (known-told (op (truth b a) (truth b c)) (merged (grounds b a) (grounds b c)) (value_under v f)
      (λ h. let m = merged-split (grounds b a) (grounds b c) h in
      subst (Agrees (op (truth b a) (truth b c))) (sym e) (s (truth b a) (truth b c) (value_under v a) (value_under v c) (p m.0) (q m.1))))

  told : (b : Branch) (f : Tree) → Formula f → Told b f
  unfolding truth grounds
  told b _ f_true = by-whole true_ Unknown [] ByItself (has b true_) false (λ h. refl)
  told b _ f_false = by-whole false_ Unknown [] FalseItself (has b false_) (has b (not_ false_)) (λ h. refl)
  told b _ (f_symbol s) = by-whole (app s end) Unknown [] Undecided (has b (app s end)) (has b (not_ (app s end))) (λ h. tt)
  told b _ (f_not {a} p) =
      by-whole (not_ a) (opposite (truth b a)) (grounds b a) Undecided (has b (not_ a)) (has b (not_ (not_ a))) (λ h. opposite-agrees (truth b a) (value_under v a) (told b a p h))
  told b _ (f_and {a} {b = c} p q) = joined-told both_true both both-agrees b (and_ a c) a c refl (told b a p) (told b c q) (has b (and_ a c)) (has b (not_ (and_ a c)))
  told b _ (f_or {a} {b = c} p q) = joined-told one_true one_holds one-agrees b (or_ a c) a c refl (told b a p) (told b c q) (has b (or_ a c)) (has b (not_ (or_ a c)))
  told b _ (f_imp {a} {b = c} p q) =
      joined-told implied (λ x y. one_holds (negated x) y) implied-agrees b (imp_ a c) a c refl (told b a p) (told b c q) (has b (imp_ a c)) (has b (not_ (imp_ a c)))
  told b _ (f_iff {a} {b = c} p q) = joined-told same_truth agreeing same-agrees b (iff_ a c) a c refl (told b a p) (told b c q) (has b (iff_ a c)) (has b (not_ (iff_ a c)))

  -- where the grounds of the first false formula hold, not all hold
  pub some-fails : (b : Branch) (fs : List Tree) → Formulas fs → some_no (truth b) fs ≡ true → AllHold v (first_no b fs) → all_hold v fs ≡ false
  some-fails b [] p e h = cc
  some-fails b (f ∷ fs) p e h = go (truth b f) (told b f p.0) (some-fails b fs p.1) e h
    where
      go : (t : Truth) → (AllHold v (grounds b f) → Agrees t (value_under v f)) → (some_no (truth b) fs ≡ true → AllHold v (first_no b fs) → all_hold v fs ≡ false)
          → either (is_no t) (some_no (truth b) fs) ≡ true → AllHold v (if_so (is_no t) (grounds b f) (first_no b fs)) → both (value_under v f) (all_hold v fs) ≡ false
      go Yes k ih e h = both-false (value_under v f) (all_hold v fs) (ih e h)
      go No k ih e h = ap (λ z. both z (all_hold v fs)) (k h)
      go Unknown k ih e h = both-false (value_under v f) (all_hold v fs) (ih e h)

  -- the formulas on the branch with a weight below n hold
  abbrev pub TrueBelow : Branch → ℕ → Type 0
  TrueBelow b n = (g : Tree) → Has (formulas b) g → weight g < n → value_under v g ≡ true

  -- the weight of what a value of f rests on at most
  abbrev bound : Truth → Tree → ℕ
  bound Yes f = weight f
  bound No f = connectives f
  bound Unknown f = connectives f

  bound-low : (t : Truth) (f : Tree) → weight f ≤ bound t f
  bound-low Yes f = omega arith
  bound-low No f = weight-le f
  bound-low Unknown f = weight-le f

  bound-high : (t : Truth) (f : Tree) → bound t f ≤ connectives f
  bound-high Yes f = weight-le f
  bound-high No f = omega arith
  bound-high Unknown f = omega arith

  bound-not : (t : Truth) (a : Tree) → bound t a ≤ bound (opposite t) (not_ a)
  bound-not Yes a = omega (arith, weight-le a)
  bound-not No a = omega arith
  bound-not Unknown a = omega arith

  abbrev Seen : Branch → Tree → Type 0
  Seen b f = TrueBelow b (suc (bound (truth b f) f)) → Agrees (truth b f) (value_under v f)

  less-true : (b : Branch) (n m : ℕ) → n ≤ m → TrueBelow b m → TrueBelow b n
  less-true b n m l h g k s = h g k (omega (arith, l, s))

  by-standing : (b : Branch) (f : Tree) (t : Truth) (u : Whole) → (TrueBelow b (suc (bound (truth_by u t) f)) → Agrees (truth_by u t) (value_under v f)) → (x y : Bool) → (x ≡ true → has b f ≡ true) → (y ≡ true → has b (not_ f) ≡ true)
      → TrueBelow b (suc (bound (truth_by (whole_by x y u) t) f)) → Agrees (truth_by (whole_by x y u) t) (value_under v f)
  by-standing b f t u k true y e d h = h f (has-stands b f (e refl)) (omega arith)
  by-standing b f t u k false true e d h = negated-false (value_under v f) (h (not_ f) (has-stands b (not_ f) (d refl)) (omega arith))
  by-standing b f t u k false false e d h = k h

  joined-seen : (op : Truth → Truth → Truth) (test : Bool → Bool → Bool) → Sound op test → (b : Branch) (f a c : Tree) → value_under v f ≡ test (value_under v a) (value_under v c)
      → weight f ≡ suc (connectives a + connectives c) → Seen b a → Seen b c
      → TrueBelow b (suc (bound (op (truth b a) (truth b c)) f)) → Agrees (op (truth b a) (truth b c)) (value_under v f)
  joined-seen op test s b f a c e w p q h =
      subst (Agrees (op (truth b a) (truth b c))) (sym e)
      (s (truth b a) (truth b c) (value_under v a) (value_under v c)
      (p (less-true b _ _ (omega (arith, bound-high (truth b a) a, bound-low (op (truth b a) (truth b c)) f, w)) h))
      (q (less-true b _ _ (omega (arith, bound-high (truth b c) c, bound-low (op (truth b a) (truth b c)) f, w)) h)))

  seen : (b : Branch) (f : Tree) → Formula f → Seen b f
  unfolding truth
  seen b _ f_true = by-standing b true_ Unknown ByItself (λ h. refl) (has b true_) false (λ e. e) (λ e. cc)
  seen b _ f_false = by-standing b false_ Unknown FalseItself (λ h. refl) (has b false_) (has b (not_ false_)) (λ e. e) (λ e. e)
  seen b _ (f_symbol s) = by-standing b (app s end) Unknown Undecided (λ h. tt) (has b (app s end)) (has b (not_ (app s end))) (λ e. e) (λ e. e)
  seen b _ (f_not {a} p) =
      by-standing b (not_ a) (opposite (truth b a)) Undecided
      (λ h. opposite-agrees (truth b a) (value_under v a) (seen b a p (less-true b _ _ (omega (arith, bound-not (truth b a) a)) h))) (has b (not_ a)) (has b (not_ (not_ a))) (λ e. e) (λ e. e)
  seen b _ (f_and {a} {b = c} p q) =
      by-standing b (and_ a c) (both_true (truth b a) (truth b c)) Undecided (joined-seen both_true both both-agrees b (and_ a c) a c refl refl (seen b a p) (seen b c q)) (has b (and_ a c)) (has b (not_ (and_ a c))) (λ e. e) (λ e. e)
  seen b _ (f_or {a} {b = c} p q) =
      by-standing b (or_ a c) (one_true (truth b a) (truth b c)) Undecided (joined-seen one_true one_holds one-agrees b (or_ a c) a c refl refl (seen b a p) (seen b c q)) (has b (or_ a c)) (has b (not_ (or_ a c))) (λ e. e) (λ e. e)
  seen b _ (f_imp {a} {b = c} p q) =
      by-standing b (imp_ a c) (implied (truth b a) (truth b c)) Undecided
      (joined-seen implied (λ x y. one_holds (negated x) y) implied-agrees b (imp_ a c) a c refl refl (seen b a p) (seen b c q)) (has b (imp_ a c)) (has b (not_ (imp_ a c))) (λ e. e) (λ e. e)
  seen b _ (f_iff {a} {b = c} p q) =
      by-standing b (iff_ a c) (same_truth (truth b a) (truth b c)) Undecided (joined-seen same_truth agreeing same-agrees b (iff_ a c) a c refl refl (seen b a p) (seen b c q)) (has b (iff_ a c)) (has b (not_ (iff_ a c))) (λ e. e) (λ e. e)

  -- lighter formulas that are true on the branch hold
  pub yes-hold : (b : Branch) (n : ℕ) (fs : List Tree) → Formulas fs → weights fs < n → all_yes (truth b) fs ≡ true → TrueBelow b n → all_hold v fs ≡ true
  yes-hold b n [] p l e h = refl
  yes-hold b n (f ∷ fs) p l e h = go (truth b f) (seen b f p.0) (λ e. yes-hold b n fs p.1 (omega (arith, l)) e h) e
    where
      go : (t : Truth) → (TrueBelow b (suc (bound t f)) → Agrees t (value_under v f)) → (all_yes (truth b) fs ≡ true → all_hold v fs ≡ true) → if_so (is_yes t) (all_yes (truth b) fs) false ≡ true → both (value_under v f) (all_hold v fs) ≡ true
      go Yes k ih e = both-hold (value_under v f) (all_hold v fs) (k (less-true b _ _ (omega (arith, l)) h)) (ih e)
      go No k ih e = cc
      go Unknown k ih e = cc

pub tests_falsifies : TestsFalsifies
tests_falsifies v facts goal = (
  (λ h. let k = both-split (all_hold v facts) (negated (value_under v goal)) h in (all-hold v facts k.0, negated-false (value_under v goal) k.1)),
  λ h. both-hold (all_hold v facts) (negated (value_under v goal)) (hold-all v facts h.0) (ap negated h.1),
)
