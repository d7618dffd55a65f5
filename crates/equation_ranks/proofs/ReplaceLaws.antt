-- Replacements by numbers, and the oldest entry that a rule fits.
use Rattle.std.proofs.Common.{◌≡◌, ℕ, zero, suc, ◌<◌, ◌≤◌, Bool, true, false, not, nat_lt, Option, Some, None, List, [], ◌∷◌, length, refl, ap, sym, ◌∙◌, subst, arith, ◌⊎◌, inl, inr}
use Rattle.std.proofs.lemmas.Bool.Decides.{nat_tests}
use Rattle.core_expr.specs.Tree.{Tree}
use Rattle.core_expr.specs.Terms.{same}
use Rattle.term_bank.specs.Banks.{Extends, HasTree, tree_at}
use Rattle.search_definition.specs.declared.rule.Rank.{Rank}
use Rattle.search_definition.specs.declared.rule.Rule.TheVariants.{Replaced}
use Rattle.search_definition.specs.Terms.{if_so, or_else, after, first_some, occurs, replace}
use Rattle.core_expr.specs.Put.{IsScoped}
use Rattle.search_definition.specs.Branches.{Entry, Branch, alive}
use Rattle.search_definition.specs.Rules.{Step, Result, at_entry, at_live, oldest}
use Rattle.search_definition.specs.Rules.Sides.{Alone as One, Both}
use Rattle.search_definition.specs.Equations.{Ordered, sides_of, step_if, replaced_by, by_sides, by_equation, replace_rule}
use Rattle.search_definition.specs.Instances.{Fresh}
use Rattle.search_definition.specs.Search.{by_rank}
use Rattle.search_definition.specs.Watches.{NoneBefore}
use Rattle.search_definition.proofs.Positions.{oldest_found, oldest_none}
use Rattle.search_definition.proofs.Telling.{rule_tells}
use Rattle.branch_book.specs.declared.item.Item.{Item}
use Rattle.branch_state.specs.Shown.{Placed, placed_at, item_of}
use Rattle.search_trace.specs.Traces.{result_of}
use Rattle.tableau_search.specs.declared.finder.Found.{Found}
use Rattle.tableau_search.specs.declared.finder.Found.TheVariants.{Alone, Splits}
use Rattle.tableau_search.specs.Entries.{AreKnown, AreClosed, branch_of, new_trees}
use Rattle.tableau_search.specs.Found.{IsFound, IsAnswer}
use Rattle.tableau_search.proofs.ClosedLaws.{all_closed}
use Rattle.tableau_search.proofs.LiftLaws.{branch_kept, branch_at, branch_length, known_at, tree_kept}
use Rattle.equation_ranks.specs.declared.replacing.Sides.{Sides}
use Rattle.equation_ranks.specs.declared.replacing.Replacement.{Replacement}
use Rattle.equation_ranks.specs.Partners.{number_at, formula_at, IsOldest}
use Rattle.equation_ranks.specs.Replacing.{AddsClosed, used_result, HasSides, AreSides, ordered_of, is_fit, fits_at, replaced_step, replaced_result, HasReplacement, IsReplacement, by_entry, NoneReplaces, FitsNone, NoneFits, first_untried}

-- the oldest entry that a rule fits

pub none_before : (ts : List Tree) (es : List Placed) (rule : Tree → Option Step) (k : ℕ) → ((i : ℕ) → i < k → i < length es → (placed_at es i).live ≡ true → rule (formula_at ts es i) ≡ None) → NoneBefore rule k (branch_of ts es)
none_before ts es rule k h = λ i l m v.
    let n : i < length es = subst (λ n. i < n) (branch_length ts es) m in
    let e = branch_at ts es i n in
    ap (λ (x : Entry). rule x.formula) e ∙ h i l n (sym (ap (λ (x : Entry). x.live) e) ∙ v)

pub oldest_here : (ts : List Tree) (es : List Placed) (rule : Tree → Option Step) (k : ℕ) (s : Step) → NoneBefore rule k (branch_of ts es) → k < length es → (placed_at es k).live ≡ true → rule (formula_at ts es k) ≡ Some s → oldest rule 0 (branch_of ts es) ≡ Some (record { entry = k; step = s })
oldest_here ts es rule k s n l v r =
    let e = branch_at ts es k l in
    oldest_found rule k (branch_of ts es) s n (subst (λ n. k < n) (sym (branch_length ts es)) l) (ap (λ (x : Entry). x.live) e ∙ v) (ap (λ (x : Entry). rule x.formula) e ∙ r)

pub oldest_nowhere : (ts : List Tree) (es : List Placed) (rule : Tree → Option Step) (k : ℕ) → NoneBefore rule k (branch_of ts es) → length es ≤ k → oldest rule 0 (branch_of ts es) ≡ None
oldest_nowhere ts es rule k n l = oldest_none rule k (branch_of ts es) n (subst (λ n. n ≤ k) (sym (branch_length ts es)) l)

-- the equation q on one entry

fit_step : (q : Tree) (o : Ordered) (f : Tree) → is_fit q o.greater f ≡ true → replaced_by q o f ≡ Some (replaced_step q o f)
fit_step q o f h = go (same q f) (occurs o.greater f) h
  where
    go : (x y : Bool) → if_so x false y ≡ true → step_if (not x) (step_if y (Some (replaced_step q o f))) ≡ Some (replaced_step q o f)
    go true y e = cc
    go false true e = refl
    go false false e = cc

no_step : (q : Tree) (o : Ordered) (f : Tree) → is_fit q o.greater f ≡ false → replaced_by q o f ≡ None
no_step q o f h = go (same q f) (occurs o.greater f) h
  where
    go : (x y : Bool) → if_so x false y ≡ false → step_if (not x) (step_if y (Some (replaced_step q o f))) ≡ None
    go true y e = refl
    go false true e = cc
    go false false e = refl

both_hold : (x y : Bool) → if_so x y false ≡ true → (x ≡ true) × (y ≡ true)
both_hold true y e = (refl, e)
both_hold false y e = cc

none_fit : (ts : List Tree) (es : List Placed) (q : Tree) (o : Ordered) (k : ℕ) → FitsNone ts es q o.greater k → NoneBefore (replaced_by q o) k (branch_of ts es)
none_fit ts es q o k h = none_before ts es (replaced_by q o) k (λ i l n v. no_step q o (formula_at ts es i) (sym (ap (λ b. if_so b (is_fit q o.greater (formula_at ts es i)) false) v) ∙ h i l n))

pub fit_found : (ts : List Tree) (es : List Placed) (q p : ℕ) (s : Sides) (o : Option ℕ) → q < length ts → AreSides ts s → IsOldest (fits_at ts es (tree_at ts q) (tree_at ts s.greater)) (length es) o → o ≡ Some p
    → HasReplacement ts es (by_sides (branch_of ts es) (tree_at ts q) (ordered_of ts s)) (Some (record { equation = q; sides = s; place = p }))
fit_found ts es q p s o l a h e =
    let t = tree_at ts q in
    let w = ordered_of ts s in
    let d = subst (IsOldest (fits_at ts es t w.greater) (length es)) e h in
    let b = both_hold (placed_at es p).live (is_fit t w.greater (formula_at ts es p)) d.1 in
    (oldest_here ts es (replaced_by t w) p (replaced_step t w (formula_at ts es p)) (none_fit ts es t w p (λ k l m. d.2 k l)) d.0 b.0 (fit_step t w (formula_at ts es p) b.1), record { within = d.0; lives = b.0; equation = l; sides = a })

pub fit_none : (ts : List Tree) (es : List Placed) (q : ℕ) (s : Sides) (o : Option ℕ) → IsOldest (fits_at ts es (tree_at ts q) (tree_at ts s.greater)) (length es) o → o ≡ None → by_sides (branch_of ts es) (tree_at ts q) (ordered_of ts s) ≡ None
fit_none ts es q s o h e =
    let t = tree_at ts q in
    let w = ordered_of ts s in
    oldest_nowhere ts es (replaced_by t w) (length es) (none_fit ts es t w (length es) (λ k l m. subst (IsOldest (fits_at ts es t w.greater) (length es)) e h k m)) (omega arith)

-- an entry as an equation

pub sides_some : (ts : List Tree) (p : Option Ordered) (o : Option Sides) (s : Sides) → HasSides ts p o → o ≡ Some s → (p ≡ Some (ordered_of ts s)) × AreSides ts s
sides_some ts p o s h e = subst (HasSides ts p) e h

-- the oldest live entry with an answer

module _ {B : Type 0} (g : Tree → Option B) (ts : List Tree) where
  abbrev at_place : List Placed → ℕ → Option B
  at_place es i = if_so (placed_at es i).live (g (formula_at ts es i)) None

  alive_more : (l : Bool) (f : Tree) (fs : List Tree) → first_some g (if_so l (f ∷ fs) fs) ≡ or_else (if_so l (g f) None) (first_some g fs)
  alive_more true f fs = refl
  alive_more false f fs = refl

  alive_none : (es : List Placed) → ((i : ℕ) → i < length es → at_place es i ≡ None) → first_some g (alive (branch_of ts es)) ≡ None
  alive_none [] h = refl
  alive_none (e ∷ es) h =
      alive_more e.live (tree_at ts e.formula) (alive (branch_of ts es))
      ∙ ap (λ o. or_else o (first_some g (alive (branch_of ts es)))) (h 0 (omega arith))
      ∙ alive_none es (λ i l. h (suc i) (omega arith))

  alive_some : (es : List Placed) (j : ℕ) (v : B) → j < length es → ((i : ℕ) → i < j → at_place es i ≡ None) → at_place es j ≡ Some v → first_some g (alive (branch_of ts es)) ≡ Some v
  alive_some [] j v l h e = absurd (omega arith)
  alive_some (x ∷ es) zero v l h e = alive_more x.live (tree_at ts x.formula) (alive (branch_of ts es)) ∙ ap (λ o. or_else o (first_some g (alive (branch_of ts es)))) e
  alive_some (x ∷ es) (suc j) v l h e =
      alive_more x.live (tree_at ts x.formula) (alive (branch_of ts es))
      ∙ ap (λ o. or_else o (first_some g (alive (branch_of ts es)))) (h 0 (omega arith))
      ∙ alive_some es j v (omega arith) (λ i m. h (suc i) (omega arith)) e

pub entry_replaces : (ts : List Tree) (es : List Placed) (i : ℕ) (r : Replacement) (o : Option Replacement) → i < length es → NoneReplaces ts es i → HasReplacement ts es (by_entry ts es i) o → o ≡ Some r → HasReplacement ts es (replace_rule (branch_of ts es)) (Some r)
entry_replaces ts es i r o l n h e =
    let d = subst (HasReplacement ts es (by_entry ts es i)) e h in
    (alive_some (by_equation (branch_of ts es)) ts es i (replaced_result ts es r) l (λ k m. n k m (omega (arith, m, l))) d.0, d.1)

pub none_replaces : (ts : List Tree) (es : List Placed) (i : ℕ) → length es ≤ i → NoneReplaces ts es i → replace_rule (branch_of ts es) ≡ None
none_replaces ts es i l n = alive_none (by_equation (branch_of ts es)) ts es (λ k m. n k (omega (arith, m, l)) m)

pub below : (k i : ℕ) → k < suc i → (k < i) ⊎ (k ≡ i)
below k i l = grind arith

-- a replacement that is made

pub replaced_kept : (ts us : List Tree) (es : List Placed) (r : Replacement) (x : Item) (k : ℕ) → Extends ts us → AreKnown (length ts) es → IsReplacement ts es r → x ≡ item_of (placed_at es r.place)
    → HasTree us k (replace (tree_at ts r.sides.greater) (tree_at ts r.sides.smaller) (tree_at ts x.formula))
    → used_result us r.place Replaced (x.formula ∷ r.equation ∷ []) (r.sides.greater ∷ r.sides.smaller ∷ []) k ≡ replaced_result ts es r
replaced_kept ts us es r x k g a d e h =
    let p = ap (λ (y : Item). y.formula) e in
    let f = ap (tree_at us) p ∙ tree_kept ts us (number_at es r.place) g (known_at (length ts) es r.place a d.within) in
    let q = tree_kept ts us r.equation g d.equation in
    let s = tree_kept ts us r.sides.greater g d.sides.greater in
    let t = tree_kept ts us r.sides.smaller g d.sides.smaller in
    let n = h.tree ∙ ap (λ m. replace (tree_at ts r.sides.greater) (tree_at ts r.sides.smaller) (tree_at ts m)) p in
    λ i. record { entry = r.place; step = record { rule = Replaced; named = f i ∷ q i ∷ []; terms = s i ∷ t i ∷ []; sides = One (n i ∷ []) } }

pub answer_after : (ts us : List Tree) (es : List Placed) (rule : Branch → Option Result) (x : Result) (f : Found) → Extends ts us → AreKnown (length ts) es → rule (branch_of ts es) ≡ Some x → IsFound us es (Some x) f → IsAnswer us es (rule (branch_of us es)) (Some f)
answer_after ts us es rule x f g a e h = subst (λ o. IsFound us es o f) (sym (ap rule (branch_kept ts us es g a) ∙ e)) h

-- what a rank adds is closed
pub adds_closed : (w : Fresh) (ts : List Tree) (es : List Placed) (k : Rank) (o : Option Found) → AreClosed ts es → IsAnswer ts es (by_rank w (branch_of ts es) k) o → AddsClosed ts o
adds_closed w ts es k None c h = tt
adds_closed w ts es k (Some (Alone u ns)) c h = (rule_tells w (branch_of ts es) k (result_of ts u (One (new_trees ts ns.items))) (all_closed ts es c) h.0).6
adds_closed w ts es k (Some (Splits u ns ms)) c h = (rule_tells w (branch_of ts es) k (result_of ts u (Both (new_trees ts ns.items) (new_trees ts ms.items))) (all_closed ts es c) h.0).6

closed_here : (ts : List Tree) (es : List Placed) (i : ℕ) → AreClosed ts es → i < length es → IsScoped 0 (formula_at ts es i)
closed_here ts [] i c l = absurd (omega arith)
closed_here ts (e ∷ es) zero c l = c.0
closed_here ts (e ∷ es) (suc i) c l = closed_here ts es i c.1 (omega arith)

pub closed_at : (ts : List Tree) (es : List Placed) (i : ℕ) (x : Item) → AreClosed ts es → i < length es → x ≡ item_of (placed_at es i) → IsScoped 0 (tree_at ts x.formula)
closed_at ts es i x c l e = subst (λ f. IsScoped 0 (tree_at ts f)) (sym (ap (λ (y : Item). y.formula) e)) (closed_here ts es i c l)

pub fits_not : (ts : List Tree) (es : List Placed) (q g : Tree) (i j : ℕ) → j ≡ suc i → FitsNone ts es q g i → fits_at ts es q g i ≡ false → FitsNone ts es q g j
fits_not ts es q g i j p h e k l m = go (below k i (subst (λ x. k < x) p l))
  where
    go : (k < i) ⊎ (k ≡ i) → fits_at ts es q g k ≡ false
    go (inl a) = h k a m
    go (inr a) = ap (fits_at ts es q g) a ∙ e

pub replacement_after : (ts us : List Tree) (es : List Placed) (r : Replacement) (o : Option Replacement) (f : Found) → Extends ts us → AreKnown (length ts) es → HasReplacement ts es (replace_rule (branch_of ts es)) o → o ≡ Some r → IsFound us es (Some (replaced_result ts es r)) f → IsAnswer us es (replace_rule (branch_of us es)) (Some f)
replacement_after ts us es r o f g a h e k = answer_after ts us es replace_rule (replaced_result ts es r) f g a (subst (HasReplacement ts es (replace_rule (branch_of ts es))) e h).0 k

pub none_kept : (ts us : List Tree) (es : List Placed) (rule : Tree → Option Step) (k : ℕ) → Extends ts us → AreKnown (length ts) es → NoneBefore rule k (branch_of ts es) → NoneBefore rule k (branch_of us es)
none_kept ts us es rule k g a n = subst (NoneBefore rule k) (sym (branch_kept ts us es g a)) n

-- the same said of the entries
pub none_here : (ts : List Tree) (es : List Placed) (rule : Tree → Option Step) (k : ℕ) → NoneBefore rule k (branch_of ts es) → (i : ℕ) → i < k → i < length es → (placed_at es i).live ≡ true → rule (formula_at ts es i) ≡ None
none_here ts es rule k n i l m v =
    let e = branch_at ts es i m in
    ap (λ (x : Entry). rule x.formula) (sym e) ∙ n i l (subst (λ n. i < n) (sym (branch_length ts es)) m) (ap (λ (x : Entry). x.live) e ∙ v)

-- equations that were tried

-- an entry that was tried on the others before n
pub tried_on : (ts : List Tree) (es : List Placed) (n i : ℕ) (x : Item) (o : Option Sides) (s : Sides) → NoneFits ts es n → i < n → i < length es → x ≡ item_of (placed_at es i) → x.live ≡ true → HasSides ts (sides_of (tree_at ts x.formula)) o → o ≡ Some s
    → FitsNone ts es (tree_at ts x.formula) (tree_at ts s.greater) n
tried_on ts es n i x o s h l m e v g q =
    let p = ap (λ (y : Item). y.formula) e in
    let w = (sides_some ts (sides_of (tree_at ts x.formula)) o s g q).0 in
    subst (λ f. FitsNone ts es (tree_at ts f) (tree_at ts s.greater) n) (sym p) (h i l m (sym (ap (λ (y : Item). y.live) e) ∙ v) (ordered_of ts s) (sym (ap (λ f. sides_of (tree_at ts f)) p) ∙ w))

-- where all were tried on one another, the rank gives nothing
pub all_tried : (ts : List Tree) (es : List Placed) (n : ℕ) → length es ≤ n → NoneFits ts es n → replace_rule (branch_of ts es) ≡ None
all_tried ts es n l h = alive_none (by_equation (branch_of ts es)) ts es (λ i m. go i m (placed_at es i).live refl (sides_of (formula_at ts es i)) refl)
  where
    go : (i : ℕ) → i < length es → (b : Bool) → (placed_at es i).live ≡ b → (o : Option Ordered) → sides_of (formula_at ts es i) ≡ o → if_so b (by_equation (branch_of ts es) (formula_at ts es i)) None ≡ None
    go i m false v o q = refl
    go i m true v None q = ap (after (by_sides (branch_of ts es) (formula_at ts es i))) q
    go i m true v (Some o) q =
        let f = formula_at ts es i in
        ap (after (by_sides (branch_of ts es) f)) q
        ∙ oldest_nowhere ts es (replaced_by f o) n (none_fit ts es f o n (h i (omega (arith, m, l)) m v o q)) l

-- and the other way round

neither : {A : Type 0} (o p : Option A) → or_else o p ≡ None → (o ≡ None) × (p ≡ None)
neither None p h = (refl, h)
neither (Some x) p h = cc

module _ {B : Type 0} (g : Tree → Option B) (ts : List Tree) where
  alive_each : (es : List Placed) → first_some g (alive (branch_of ts es)) ≡ None → (i : ℕ) → i < length es → (placed_at es i).live ≡ true → g (formula_at ts es i) ≡ None
  alive_each [] h i l v = absurd (omega arith)
  alive_each (e ∷ es) h i l v = go i l v (neither (if_so e.live (g (tree_at ts e.formula)) None) (first_some g (alive (branch_of ts es))) (sym (alive_more g ts e.live (tree_at ts e.formula) (alive (branch_of ts es))) ∙ h)) (alive_each es)
    where
      go : (i : ℕ) → i < length (e ∷ es) → (placed_at (e ∷ es) i).live ≡ true → (if_so e.live (g (tree_at ts e.formula)) None ≡ None) × (first_some g (alive (branch_of ts es)) ≡ None)
          → (first_some g (alive (branch_of ts es)) ≡ None → (i : ℕ) → i < length es → (placed_at es i).live ≡ true → g (formula_at ts es i) ≡ None) → g (formula_at ts (e ∷ es) i) ≡ None
      go zero l v p r = sym (ap (λ b. if_so b (g (tree_at ts e.formula)) None) v) ∙ p.0
      go (suc i) l v p r = r p.1 i (omega arith) v

entry_none : (i : ℕ) (o : Option Step) → at_entry i o ≡ None → o ≡ None
entry_none i None e = refl
entry_none i (Some s) e = cc

oldest_each : (ts : List Tree) (rule : Tree → Option Step) (n : ℕ) (es : List Placed) → oldest rule n (branch_of ts es) ≡ None → (i : ℕ) → i < length es → (placed_at es i).live ≡ true → rule (formula_at ts es i) ≡ None
oldest_each ts rule n [] h i l v = absurd (omega arith)
oldest_each ts rule n (e ∷ es) h i l v = go i l v (neither (at_entry n (at_live rule e.live (tree_at ts e.formula))) (oldest rule (suc n) (branch_of ts es)) h) (oldest_each ts rule (suc n) es)
  where
    go : (i : ℕ) → i < length (e ∷ es) → (placed_at (e ∷ es) i).live ≡ true → (at_entry n (at_live rule e.live (tree_at ts e.formula)) ≡ None) × (oldest rule (suc n) (branch_of ts es) ≡ None)
        → (oldest rule (suc n) (branch_of ts es) ≡ None → (i : ℕ) → i < length es → (placed_at es i).live ≡ true → rule (formula_at ts es i) ≡ None) → rule (formula_at ts (e ∷ es) i) ≡ None
    go zero l v p r = sym (ap (λ b. at_live rule b (tree_at ts e.formula)) v) ∙ entry_none n (at_live rule e.live (tree_at ts e.formula)) p.0
    go (suc i) l v p r = r p.1 i (omega arith) v

not_fit : (q : Tree) (o : Ordered) (f : Tree) → replaced_by q o f ≡ None → is_fit q o.greater f ≡ false
not_fit q o f h = go (same q f) (occurs o.greater f) h
  where
    go : (x y : Bool) → step_if (not x) (step_if y (Some (replaced_step q o f))) ≡ None → if_so x false y ≡ false
    go true y e = refl
    go false true e = cc
    go false false e = refl

pub none_fits : (ts : List Tree) (es : List Placed) → replace_rule (branch_of ts es) ≡ None → NoneFits ts es (length es)
none_fits ts es h i m l v o q k n p =
    let f = formula_at ts es i in
    let a = alive_each (by_equation (branch_of ts es)) ts es h i l v in
    let b : by_sides (branch_of ts es) f o ≡ None = sym (ap (after (by_sides (branch_of ts es) f)) q) ∙ a in
    go (placed_at es k).live refl (oldest_each ts (replaced_by f o) 0 es b k p)
  where
    go : (b : Bool) → (placed_at es k).live ≡ b → ((placed_at es k).live ≡ true → replaced_by (formula_at ts es i) o (formula_at ts es k) ≡ None) → if_so b (is_fit (formula_at ts es i) o.greater (formula_at ts es k)) false ≡ false
    go true v r = not_fit (formula_at ts es i) o (formula_at ts es k) (r v)
    go false v r = refl

pub untried_after : (i n s k : ℕ) → s ≡ first_untried i n → k < s → (i < n) × (k < n)
untried_after i n s k e l = go (nat_lt i n) refl (subst (λ x. k < x) e l)
  where
    less : (m n : ℕ) → nat_lt m n ≡ true → m < n
    less m n e = grind (arith, nat_tests)

    go : (b : Bool) → nat_lt i n ≡ b → k < if_so b n 0 → (i < n) × (k < n)
    go true q l = (less i n q, l)
    go false q l = absurd (omega (arith, l))
