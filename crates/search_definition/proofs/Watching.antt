-- Values after a formula is added, and after an entry is used.
use Rattle.std.proofs.Common.{◌≡◌, ℕ, zero, suc, Bool, true, false, Option, Some, None, List, [], ◌∷◌, ◌++◌, refl, ap, sym, ◌∙◌, subst, inl, inr}
use Rattle.std.proofs.lemmas.Bool.{cases_Bool}
use Rattle.core_expr.specs.Tree.{Tree, not_, and_, or_, imp_, iff_, eq_}
use Rattle.core_expr.specs.Terms.{same}
use Rattle.core_expr.specs.Equal.{same-true}
use Rattle.search_definition.specs.Terms.{if_so, either, after, or_else, when}
use Rattle.search_definition.specs.Branches.{Entry, Branch, has, add, used}
use Rattle.search_definition.specs.Values.{Whole, opposite, both_true, one_true, same_truth, implied, is_plainly_true, is_plainly_false, has_mirror, has_not_mirror, whole, truth_by, truth, grounds_by, grounds, merged, where_known, is_yes, is_no, all_yes, some_no, first_no}
use Rattle.search_definition.specs.Values.Truth.{Unknown}
use Rattle.search_definition.specs.Values.Whole.{Stands, ByItself, Mirrored, NotStands, FalseItself, NotMirrored, Undecided}
use Rattle.search_definition.specs.declared.rule.Rule.TheVariants.{FalseLeft, FalseRight}
use Rattle.search_definition.specs.Rules.{Step, gives}
use Rattle.search_definition.specs.Splits.{Splitting, splitting, Settled, settled, settle_as, settle_split}
use Rattle.search_definition.specs.Splits.Settled.{OneTrue, LeftFalse, RightFalse}
use Rattle.search_definition.specs.Watches.{watch, watch_all, watch_sides, watched, touches, In, Apart}
use Rattle.search_definition.specs.Laws.{ValueStays, SettleStays, UsedStays}

-- two branches agree on all that the value of h as a whole looks at
pub record SameAt (b c : Branch) (h : Tree) : Type 0 where
  pub here : has c h ≡ has b h
  pub denied : has c (not_ h) ≡ has b (not_ h)
  pub mirrored : has_mirror c h ≡ has_mirror b h
  pub not_mirrored : has_not_mirror c h ≡ has_not_mirror b h

abbrev AllSame : Branch → Branch → List Tree → Type 0
AllSame b c [] = Unit {0}
AllSame b c (h ∷ hs) = SameAt b c h × AllSame b c hs

same_left : (b c : Branch) (xs ys : List Tree) → AllSame b c (xs ++ ys) → AllSame b c xs
same_left b c [] ys h = tt
same_left b c (x ∷ xs) ys h = (h.0, same_left b c xs ys h.1)

same_right : (b c : Branch) (xs ys : List Tree) → AllSame b c (xs ++ ys) → AllSame b c ys
same_right b c [] ys h = h
same_right b c (x ∷ xs) ys h = same_right b c xs ys h.1

abbrev whole_by : Bool → Bool → Bool → Bool → Bool → Bool → Whole
whole_by h t m n f d = if_so h Stands (if_so t ByItself (if_so m Mirrored (if_so n NotStands (if_so f FalseItself (if_so d NotMirrored Undecided)))))

whole_same : (b c : Branch) (f : Tree) → SameAt b c f → whole c f ≡ whole b f
whole_same b c f h = λ i. whole_by (h.here i) (is_plainly_true f) (h.mirrored i) (h.denied i) (is_plainly_false f) (h.not_mirrored i)

-- so they agree on the value
truth_same : (b c : Branch) (f : Tree) → AllSame b c (watch f) → truth c f ≡ truth b f
unfolding truth
truth_same b c (not_ a) h = let s = whole_same b c (not_ a) h.0 in let v = truth_same b c a h.1 in λ i. truth_by (s i) (opposite (v i))
truth_same b c (and_ x y) h =
    let s = whole_same b c (and_ x y) h.0 in
    let v = truth_same b c x (same_left b c (watch x) (watch y) h.1) in
    let w = truth_same b c y (same_right b c (watch x) (watch y) h.1) in
    λ i. truth_by (s i) (both_true (v i) (w i))
truth_same b c (or_ x y) h =
    let s = whole_same b c (or_ x y) h.0 in
    let v = truth_same b c x (same_left b c (watch x) (watch y) h.1) in
    let w = truth_same b c y (same_right b c (watch x) (watch y) h.1) in
    λ i. truth_by (s i) (one_true (v i) (w i))
truth_same b c (imp_ x y) h =
    let s = whole_same b c (imp_ x y) h.0 in
    let v = truth_same b c x (same_left b c (watch x) (watch y) h.1) in
    let w = truth_same b c y (same_right b c (watch x) (watch y) h.1) in
    λ i. truth_by (s i) (implied (v i) (w i))
truth_same b c (iff_ x y) h =
    let s = whole_same b c (iff_ x y) h.0 in
    let v = truth_same b c x (same_left b c (watch x) (watch y) h.1) in
    let w = truth_same b c y (same_right b c (watch x) (watch y) h.1) in
    λ i. truth_by (s i) (same_truth (v i) (w i))
truth_same b c f h = ap (λ o. truth_by o Unknown) (whole_same b c f h.0)

-- and on its grounds
grounds_same : (b c : Branch) (f : Tree) → AllSame b c (watch f) → grounds c f ≡ grounds b f
unfolding grounds
grounds_same b c (not_ a) h = let s = whole_same b c (not_ a) h.0 in let v = grounds_same b c a h.1 in λ i. grounds_by (s i) (not_ a) (v i)
grounds_same b c (and_ x y) h =
    let s = whole_same b c (and_ x y) h.0 in
    let l = same_left b c (watch x) (watch y) h.1 in
    let r = same_right b c (watch x) (watch y) h.1 in
    let v = truth_same b c x l in let w = truth_same b c y r in
    let p = grounds_same b c x l in let q = grounds_same b c y r in
    λ i. grounds_by (s i) (and_ x y) (where_known (both_true (v i) (w i)) (merged (p i) (q i)))
grounds_same b c (or_ x y) h =
    let s = whole_same b c (or_ x y) h.0 in
    let l = same_left b c (watch x) (watch y) h.1 in
    let r = same_right b c (watch x) (watch y) h.1 in
    let v = truth_same b c x l in let w = truth_same b c y r in
    let p = grounds_same b c x l in let q = grounds_same b c y r in
    λ i. grounds_by (s i) (or_ x y) (where_known (one_true (v i) (w i)) (merged (p i) (q i)))
grounds_same b c (imp_ x y) h =
    let s = whole_same b c (imp_ x y) h.0 in
    let l = same_left b c (watch x) (watch y) h.1 in
    let r = same_right b c (watch x) (watch y) h.1 in
    let v = truth_same b c x l in let w = truth_same b c y r in
    let p = grounds_same b c x l in let q = grounds_same b c y r in
    λ i. grounds_by (s i) (imp_ x y) (where_known (implied (v i) (w i)) (merged (p i) (q i)))
grounds_same b c (iff_ x y) h =
    let s = whole_same b c (iff_ x y) h.0 in
    let l = same_left b c (watch x) (watch y) h.1 in
    let r = same_right b c (watch x) (watch y) h.1 in
    let v = truth_same b c x l in let w = truth_same b c y r in
    let p = grounds_same b c x l in let q = grounds_same b c y r in
    λ i. grounds_by (s i) (iff_ x y) (where_known (same_truth (v i) (w i)) (merged (p i) (q i)))
grounds_same b c f h = ap (λ o. grounds_by o f []) (whole_same b c f h.0)

-- a formula more

has_last : (b : Branch) (e : Entry) (h : Tree) → (e.formula ≡ h → ⊥) → has (b ++ e ∷ []) h ≡ has b h
has_last [] e h n = elim (cases_Bool (same e.formula h)) [ inl z ↦ absurd (n (same-true e.formula h z)) | inr z ↦ ap (λ x. either x false) z ]
has_last (d ∷ b) e h n = ap (λ x. either (same d.formula h) x) (has_last b e h n)

has_added : (b : Branch) (f h : Tree) → (f ≡ h → ⊥) → has (add b f) h ≡ has b h
has_added b f h n = go (has b f)
  where
    go : (x : Bool) → has (if_so x b (b ++ record { formula = f; live = true; count = 0 } ∷ [])) h ≡ has b h
    go true = refl
    go false = has_last b (record { formula = f; live = true; count = 0 }) h n

touches_self : (f : Tree) → In f (touches f)
touches_self (not_ (eq_ s t)) = inl refl
touches_self (not_ a) = inl refl
touches_self (eq_ s t) = inl refl
touches_self f = inl refl

touches_part : (h : Tree) → In h (touches (not_ h))
touches_part (eq_ s t) = inr (inl refl)
touches_part h = inr (inl refl)

mirror_after : (b : Branch) (f h : Tree) → (In h (touches f) → ⊥) → has_mirror (add b f) h ≡ has_mirror b h
mirror_after b f (eq_ s t) n = has_added b f (eq_ t s) (λ e. n (subst (λ x. In (eq_ s t) (touches x)) (sym e) (inr (inl refl))))
mirror_after b f h n = refl

not_mirror_after : (b : Branch) (f h : Tree) → (In h (touches f) → ⊥) → has_not_mirror (add b f) h ≡ has_not_mirror b h
not_mirror_after b f (eq_ s t) n = has_added b f (not_ (eq_ t s)) (λ e. n (subst (λ x. In (eq_ s t) (touches x)) (sym e) (inr (inr (inl refl)))))
not_mirror_after b f h n = refl

same_after : (b : Branch) (f h : Tree) → (In h (touches f) → ⊥) → SameAt b (add b f) h
same_after b f h n =
    record {
      here = has_added b f h (λ e. n (subst (λ x. In x (touches f)) e (touches_self f)));
      denied = has_added b f (not_ h) (λ e. n (subst (λ x. In h (touches x)) (sym e) (touches_part h)));
      mirrored = mirror_after b f h n;
      not_mirrored = not_mirror_after b f h n;
    }

all_after : (b : Branch) (f : Tree) (hs : List Tree) → Apart (touches f) hs → AllSame b (add b f) hs
all_after b f [] n = tt
all_after b f (h ∷ hs) n = (same_after b f h (λ p. n h p (inl refl)), all_after b f hs (λ g p q. n g p (inr q)))

pub value_stays : ValueStays
value_stays b f g n = let h = all_after b f (watch g) n in (truth_same b (add b f) g h, grounds_same b (add b f) g h)

-- how an entry settles

all_yes_same : (b c : Branch) (fs : List Tree) → AllSame b c (watch_all fs) → all_yes (truth c) fs ≡ all_yes (truth b) fs
all_yes_same b c [] h = refl
all_yes_same b c (f ∷ fs) h =
    let v = truth_same b c f (same_left b c (watch f) (watch_all fs) h) in
    let r = all_yes_same b c fs (same_right b c (watch f) (watch_all fs) h) in
    λ i. if_so (is_yes (v i)) (r i) false

some_no_same : (b c : Branch) (fs : List Tree) → AllSame b c (watch_all fs) → some_no (truth c) fs ≡ some_no (truth b) fs
some_no_same b c [] h = refl
some_no_same b c (f ∷ fs) h =
    let v = truth_same b c f (same_left b c (watch f) (watch_all fs) h) in
    let r = some_no_same b c fs (same_right b c (watch f) (watch_all fs) h) in
    λ i. either (is_no (v i)) (r i)

first_no_same : (b c : Branch) (fs : List Tree) → AllSame b c (watch_all fs) → first_no c fs ≡ first_no b fs
first_no_same b c [] h = refl
first_no_same b c (f ∷ fs) h =
    let l = same_left b c (watch f) (watch_all fs) h in
    let v = truth_same b c f l in
    let g = grounds_same b c f l in
    let r = first_no_same b c fs (same_right b c (watch f) (watch_all fs) h) in
    λ i. if_so (is_no (v i)) (g i) (r i)

settle_as_same : (b c : Branch) (f : Tree) (s : Splitting) → AllSame b c (watch_all s.left) → AllSame b c (watch_all s.right) → (o : Option Settled) → after (settle_as c f s) o ≡ after (settle_as b f s) o
settle_as_same b c f s l r None = refl
settle_as_same b c f s l r (Some OneTrue) = refl
settle_as_same b c f s l r (Some LeftFalse) = ap (λ gs. settle_left gs) (first_no_same b c s.left l)
  where
    settle_left : List Tree → Option Step
    settle_left gs = gives FalseLeft (f ∷ gs) [] s.right
settle_as_same b c f s l r (Some RightFalse) = ap (λ gs. settle_right gs) (first_no_same b c s.right r)
  where
    settle_right : List Tree → Option Step
    settle_right gs = gives FalseRight (f ∷ gs) [] s.left

abbrev settled_by : Bool → Bool → Bool → Bool → Option Settled
settled_by x y v w = or_else (when (either x y) OneTrue) (or_else (when v LeftFalse) (when w RightFalse))

settle_split_same : (b c : Branch) (f : Tree) (o : Option Splitting) → AllSame b c (watch_sides o) → after (settle_split c f) o ≡ after (settle_split b f) o
settle_split_same b c f None h = refl
settle_split_same b c f (Some s) h =
    let l = same_left b c (watch_all s.left) (watch_all s.right) h in
    let r = same_right b c (watch_all s.left) (watch_all s.right) h in
    let e : settled (truth c) s ≡ settled (truth b) s = λ i. settled_by (all_yes_same b c s.left l i) (all_yes_same b c s.right r i) (some_no_same b c s.left l i) (some_no_same b c s.right r i) in
    ap (λ o. after (settle_as c f s) o) e ∙ settle_as_same b c f s l r (settled (truth b) s)

pub settle_stays : SettleStays
settle_stays b f e n = settle_split_same b (add b f) e (splitting e) (all_after b f (watched e) n)

-- an entry is used

has_used : (s r : Bool) (b : Branch) (i : ℕ) (h : Tree) → has (used s r b i) h ≡ has b h
has_used s r [] i h = refl
has_used s r (e ∷ b) zero h = refl
has_used s r (e ∷ b) (suc i) h = ap (λ x. either (same e.formula h) x) (has_used s r b i h)

mirror_used : (s r : Bool) (b : Branch) (i : ℕ) (h : Tree) → has_mirror (used s r b i) h ≡ has_mirror b h
mirror_used s r b i (eq_ t u) = has_used s r b i (eq_ u t)
mirror_used s r b i h = refl

not_mirror_used : (s r : Bool) (b : Branch) (i : ℕ) (h : Tree) → has_not_mirror (used s r b i) h ≡ has_not_mirror b h
not_mirror_used s r b i (eq_ t u) = has_used s r b i (not_ (eq_ u t))
not_mirror_used s r b i h = refl

all_used : (s r : Bool) (b : Branch) (i : ℕ) (hs : List Tree) → AllSame b (used s r b i) hs
all_used s r b i [] = tt
all_used s r b i (h ∷ hs) = (record { here = has_used s r b i h; denied = has_used s r b i (not_ h); mirrored = mirror_used s r b i h; not_mirrored = not_mirror_used s r b i h }, all_used s r b i hs)

pub used_stays : UsedStays
used_stays s r b i g = (has_used s r b i g, truth_same b (used s r b i) g (all_used s r b i (watch g)), grounds_same b (used s r b i) g (all_used s r b i (watch g)))
