-- Values and grounds that are kept, turn by turn.
use Rattle.std.proofs.Common.{◌≡◌, ℕ, zero, suc, ◌+◌, ◌-◌, ◌<◌, ◌≤◌, Bool, true, false, cond, Option, Some, List, [], ◌∷◌, ◌++◌, length, get_or, drop, refl, ap, sym, ◌∙◌, subst, arith, inl, inr, append-nil, Vec, Global}
use Rattle.std.specs.Ordering.{nat_cmp}
use Rattle.std.specs.BTreeMap.{is_at}
use Rattle.std.proofs.lemmas.Bool.Decides.{nat_tests}
use Rattle.std.proofs.lemmas.List.{drop_more, map-append}
use Rattle.core_expr.specs.Tree.{Tree}
use Rattle.core_expr.specs.Nodes.{AreBelow}
use Rattle.term_bank.specs.Banks.{tree_at, IsDistinct}
use Rattle.term_bank.specs.Images.{In}
use Rattle.term_bank.proofs.InternLaws.{AreBelow-append}
use Rattle.search_definition.specs.Terms.{if_so, either, in_list}
use Rattle.search_definition.specs.Branches.{Branch}
use Rattle.search_definition.specs.Values.{Truth, opposite, truth, grounds, merged, where_known}
use Rattle.search_definition.specs.Values.Truth.{Yes, No, Unknown}
use Rattle.formula_rules.specs.Answers.{trees_at}
use Rattle.formula_rules.proofs.Same.{same_at}
use Rattle.branch_values.specs.declared.value.Value.{Value}
use Rattle.branch_values.specs.declared.link.Link.TheVariants.{Alone, Denied, Joined}
use Rattle.branch_values.specs.declared.work.Work.{Work}
use Rattle.branch_values.specs.declared.work.Work.TheVariants.{Known, Linked}
use Rattle.branch_values.specs.declared.work.Task.{Task}
use Rattle.branch_values.specs.Judging.{truth_of, joined_truth}
use Rattle.branch_values.specs.Plans.{IsWork, needed, indices, AreIn, ArePlanned, IsPlan}
use Rattle.branch_values.specs.Memos.{at_index, kept_value, kept_grounds, work_truth, kept_truth, in_numbers, merged_numbers, numbers_known, work_grounds, IsValue, AreGrounds, HaveValues, HaveGrounds}

at_key : (i q : ℕ) → is_at (nat_cmp i) q ≡ true → i ≡ q
at_key i q h = grind (arith, nat_tests)

at_itself : (i : ℕ) → is_at (nat_cmp i) i ≡ true
at_itself i = grind (arith, nat_tests)

-- what holds of all that is kept, and of what comes, holds then of all
module _ {A : Type 0} (R : ℕ → Option A → Type 0) where
  keep_more : (old new : List (ℕ × A)) (i : ℕ) (v : A) (is : List ℕ) → ((q : ℕ) → at_index q new ≡ cond (is_at (nat_cmp i) q) (Some v) (at_index q old)) → R i (Some v) → ((q : ℕ) → In q is → R q (at_index q old)) → (q : ℕ) → In q (i ∷ is) → R q (at_index q new)
  keep_more old new i v is e h a q m = go (is_at (nat_cmp i) q) refl m
    where
      go : (b : Bool) → is_at (nat_cmp i) q ≡ b → In q (i ∷ is) → R q (at_index q new)
      go true z m = subst (R q) (sym (e q ∙ ap (λ b. cond b (Some v) (at_index q old)) z)) (subst (λ j. R j (Some v)) (at_key i q z) h)
      go false z (inl w) = cc (ap (λ j. is_at (nat_cmp i) j) w ∙ at_itself i)
      go false z (inr m) = subst (R q) (sym (e q ∙ ap (λ b. cond b (Some v) (at_index q old)) z)) (a q m)

-- the task at a place of a plan
planned_at : (ts : List Tree) (b : Branch) (ws : List Task) (todo : List ℕ) (m : ℕ) (d : Task) → ArePlanned ts b ws todo → m < length ws → IsWork ts b (get_or ws m d).index (get_or ws m d).work × AreIn (needed (get_or ws m d).work) (indices (drop (suc m) ws) ++ todo)
planned_at ts b [] todo m d a l = absurd (omega arith)
planned_at ts b (w ∷ ws) todo zero d a l = (a.1, a.2)
planned_at ts b (w ∷ ws) todo (suc m) d a l = planned_at ts b ws todo m d a.3 (omega arith)

-- the value of a formula over right values
work_right : (ts : List Tree) (b : Branch) (i : ℕ) (w : Work) (f : ℕ → Truth) → IsWork ts b i w → ((q : ℕ) → In q (needed w) → f q ≡ truth b (tree_at ts q)) → work_truth f w ≡ truth b (tree_at ts i)
work_right ts b i (Known r) f h g = sym h.0
work_right ts b i (Linked Alone) f h g = sym h.0
work_right ts b i (Linked (Denied a)) f h g = ap opposite (g a (inl refl)) ∙ sym h.0
work_right ts b i (Linked (Joined c x y)) f h g = (λ j. joined_truth c (g x (inl refl) j) (g y (inr (inl refl)) j)) ∙ sym h.0

-- merging by numbers is merging by trees
in_trees : (ts : List Tree) (xs : List ℕ) (y : ℕ) → IsDistinct ts → AreBelow (length ts) xs → y < length ts → in_list (trees_at ts xs) (tree_at ts y) ≡ in_numbers xs y
in_trees ts [] y d b l = refl
in_trees ts (x ∷ xs) y d b l = λ j. either (same_at ts x y d b.0 l j) (in_trees ts xs y d b.1 l j)

merged_trees : (ts : List Tree) (xs ys : List ℕ) → IsDistinct ts → AreBelow (length ts) xs → AreBelow (length ts) ys → (trees_at ts (merged_numbers xs ys) ≡ merged (trees_at ts xs) (trees_at ts ys)) × AreBelow (length ts) (merged_numbers xs ys)
merged_trees ts xs [] d a b = (refl, a)
merged_trees ts xs (y ∷ ys) d a b =
    go (in_numbers xs y) (in_trees ts xs y d a b.0) (merged_trees ts xs ys d a b.1) (merged_trees ts (xs ++ y ∷ []) ys d (AreBelow-append (length ts) xs (y ∷ []) a (b.0, tt)) b.1)
  where
    pushed : trees_at ts (xs ++ y ∷ []) ≡ trees_at ts xs ++ tree_at ts y ∷ []
    pushed = map-append (tree_at ts) xs (y ∷ [])

    go : (t : Bool) → in_list (trees_at ts xs) (tree_at ts y) ≡ t
        → (trees_at ts (merged_numbers xs ys) ≡ merged (trees_at ts xs) (trees_at ts ys)) × AreBelow (length ts) (merged_numbers xs ys)
        → (trees_at ts (merged_numbers (xs ++ y ∷ []) ys) ≡ merged (trees_at ts (xs ++ y ∷ [])) (trees_at ts ys)) × AreBelow (length ts) (merged_numbers (xs ++ y ∷ []) ys)
        → (trees_at ts (if_so t (merged_numbers xs ys) (merged_numbers (xs ++ y ∷ []) ys)) ≡ if_so (in_list (trees_at ts xs) (tree_at ts y)) (merged (trees_at ts xs) (trees_at ts ys)) (merged (trees_at ts xs ++ tree_at ts y ∷ []) (trees_at ts ys)))
        × AreBelow (length ts) (if_so t (merged_numbers xs ys) (merged_numbers (xs ++ y ∷ []) ys))
    go true e p q = (p.0 ∙ sym (ap (λ t. if_so t (merged (trees_at ts xs) (trees_at ts ys)) (merged (trees_at ts xs ++ tree_at ts y ∷ []) (trees_at ts ys))) e), p.1)
    go false e p q = (q.0 ∙ ap (λ us. merged us (trees_at ts ys)) pushed ∙ sym (ap (λ t. if_so t (merged (trees_at ts xs) (trees_at ts ys)) (merged (trees_at ts xs ++ tree_at ts y ∷ []) (trees_at ts ys))) e), q.1)

known_trees : (ts : List Tree) (v : Truth) (ns : List ℕ) (us : List Tree) → (trees_at ts ns ≡ us) × AreBelow (length ts) ns → (trees_at ts (numbers_known v ns) ≡ where_known v us) × AreBelow (length ts) (numbers_known v ns)
known_trees ts Yes ns us h = h
known_trees ts No ns us h = h
known_trees ts Unknown ns us h = (refl, tt)

-- the grounds of a formula over right values and grounds
grounds_right : (ts : List Tree) (b : Branch) (i : ℕ) (w : Work) (f : ℕ → Truth) (g : ℕ → List ℕ) → IsDistinct ts → IsWork ts b i w → ((q : ℕ) → In q (needed w) → f q ≡ truth b (tree_at ts q)) → ((q : ℕ) → In q (needed w) → (trees_at ts (g q) ≡ grounds b (tree_at ts q)) × AreBelow (length ts) (g q)) → (trees_at ts (work_grounds f g w) ≡ grounds b (tree_at ts i)) × AreBelow (length ts) (work_grounds f g w)
grounds_right ts b i (Known r) f g d h u v = (sym h.1, h.2)
grounds_right ts b i (Linked Alone) f g d h u v = (sym h.1, tt)
grounds_right ts b i (Linked (Denied a)) f g d h u v = ((v a (inl refl)).0 ∙ sym h.1, (v a (inl refl)).1)
grounds_right ts b i (Linked (Joined c x y)) f g d h u v =
    let p = v x (inl refl) in
    let q = v y (inr (inl refl)) in
    let m = merged_trees ts (g x) (g y) d p.1 q.1 in
    let k = known_trees ts (joined_truth c (f x) (f y)) (merged_numbers (g x) (g y)) (merged (grounds b (tree_at ts x)) (grounds b (tree_at ts y))) (m.0 ∙ (λ j. merged (p.0 j) (q.0 j)), m.1) in
    (k.0 ∙ (λ j. where_known (joined_truth c (u x (inl refl) j) (u y (inr (inl refl)) j)) (merged (grounds b (tree_at ts x)) (grounds b (tree_at ts y)))) ∙ sym h.1, k.1)

-- a later task is a task
dropped : (ws : List Task) (n q : ℕ) → In q (indices (drop n ws)) → In q (indices ws)
dropped ws zero q h = h
dropped [] (suc n) q h = h
dropped (w ∷ ws) (suc n) q h = inr (dropped ws n q h)

-- the last tasks of a plan
module _ (ws : List Task) (k : ℕ) (d : Task) (l : k < length ws) where
  m : ℕ
  m = length ws - 1 - k

  rest : drop (length ws - k) ws ≡ drop (suc m) ws
  unfolding m
  rest = ap (λ j. drop j ws) (let z : length ws - k ≡ suc (length ws - 1 - k) = omega (arith, l) in z)

  whole : indices (drop (length ws - (k + 1)) ws) ≡ (get_or ws m d).index ∷ indices (drop (suc m) ws)
  unfolding m
  whole =
      ap (λ j. indices (drop j ws)) (let z : length ws - (k + 1) ≡ length ws - 1 - k = omega (arith, l) in z) ∙ ap indices (drop_more ws (length ws - 1 - k) d (omega (arith, l)))
      ∙ ap (λ j. (get_or ws (length ws - 1 - k) d).index ∷ indices (drop j ws)) (let z : length ws - 1 - k + 1 ≡ suc (length ws - 1 - k) = omega arith in z)

  pub values_turn : (ts : List Tree) (b : Branch) (old new : List (ℕ × Value)) (w : Task) (v : Value) → w ≡ get_or ws (length ws - 1 - k) d → truth_of v ≡ work_truth (kept_truth old) w.work → ((q : ℕ) → at_index q new ≡ cond (is_at (nat_cmp w.index) q) (Some v) (at_index q old)) → ArePlanned ts b ws [] → HaveValues ts b old (indices (drop (length ws - k) ws)) → HaveValues ts b new (indices (drop (length ws - (k + 1)) ws))
  unfolding m rest whole
  values_turn ts b old new w v ew ev en a h =
      subst (HaveValues ts b new) (sym whole) (subst (λ i. HaveValues ts b new (i ∷ later)) (ap (λ (x : Task). x.index) ew) (keep_more (IsValue ts b) old new w.index v later en right have))
    where
      later : List ℕ
      later = indices (drop (suc (length ws - 1 - k)) ws)

      have : (q : ℕ) → In q later → IsValue ts b q (at_index q old)
      have = subst (HaveValues ts b old) (ap indices rest) h

      at : IsWork ts b w.index w.work × AreIn (needed w.work) (later ++ [])
      at = subst (λ (x : Task). IsWork ts b x.index x.work × AreIn (needed x.work) (later ++ [])) (sym ew) (planned_at ts b ws [] (length ws - 1 - k) d a (omega (arith, l)))

      right : IsValue ts b w.index (Some v)
      right = ev ∙ work_right ts b w.index w.work (kept_truth old) at.0 (λ q n. have q (subst (In q) (append-nil later) (at.1 q n)))

  pub grounds_turn : (ts : List Tree) (b : Branch) (vs : List (ℕ × Value)) (old new : List (ℕ × Vec ℕ Global)) (w : Task) (v : Vec ℕ Global) → w ≡ get_or ws (length ws - 1 - k) d → v.items ≡ work_grounds (kept_truth vs) (kept_grounds old) w.work → ((q : ℕ) → at_index q new ≡ cond (is_at (nat_cmp w.index) q) (Some v) (at_index q old)) → IsDistinct ts → ArePlanned ts b ws [] → HaveValues ts b vs (indices ws) → HaveGrounds ts b old (indices (drop (length ws - k) ws)) → HaveGrounds ts b new (indices (drop (length ws - (k + 1)) ws))
  unfolding m rest whole
  grounds_turn ts b vs old new w v ew ev en dist a vals h =
      subst (HaveGrounds ts b new) (sym whole) (subst (λ i. HaveGrounds ts b new (i ∷ later)) (ap (λ (x : Task). x.index) ew) (keep_more (AreGrounds ts b) old new w.index v later en right have))
    where
      later : List ℕ
      later = indices (drop (suc (length ws - 1 - k)) ws)

      have : (q : ℕ) → In q later → AreGrounds ts b q (at_index q old)
      have = subst (HaveGrounds ts b old) (ap indices rest) h

      at : IsWork ts b w.index w.work × AreIn (needed w.work) (later ++ [])
      at = subst (λ (x : Task). IsWork ts b x.index x.work × AreIn (needed x.work) (later ++ [])) (sym ew) (planned_at ts b ws [] (length ws - 1 - k) d a (omega (arith, l)))

      of_values : (q : ℕ) → In q (needed w.work) → kept_truth vs q ≡ truth b (tree_at ts q)
      of_values q n = vals q (dropped ws (suc (length ws - 1 - k)) q (subst (In q) (append-nil later) (at.1 q n)))

      right : AreGrounds ts b w.index (Some v)
      right =
          let g = grounds_right ts b w.index w.work (kept_truth vs) (kept_grounds old) dist at.0 of_values (λ q n. have q (subst (In q) (append-nil later) (at.1 q n))) in
          (ap (trees_at ts) ev ∙ g.0, subst (AreBelow (length ts)) (sym ev) g.1)

-- after the last turn
pub grounds_all : (ts : List Tree) (b : Branch) (gs : List (ℕ × Vec ℕ Global)) (ws : List Task) (k : ℕ) → length ws ≤ k → HaveGrounds ts b gs (indices (drop (length ws - k) ws)) → HaveGrounds ts b gs (indices ws)
grounds_all ts b gs ws k l h = let e : length ws - k ≡ 0 = omega arith in subst (λ j. HaveGrounds ts b gs (indices (drop j ws))) e h

-- what a plan says of its first formula
starts : (ts : List Tree) (b : Branch) (e : ℕ) (ws : List Task) → IsPlan ts b e ws [] → In e (indices ws)
starts ts b e ws p = subst (In e) (append-nil (indices ws)) p.has_start

pub judged_value : (ts : List Tree) (b : Branch) (e : ℕ) (t : Tree) (ws s : List Task) (vs : List (ℕ × Value)) (v : Value) → IsPlan ts b e ws [] → s ≡ ws → ((ts : List Tree) → (b : Branch) → ArePlanned ts b s [] → HaveValues ts b vs (indices s)) → v ≡ kept_value vs e → tree_at ts e ≡ t → truth_of v ≡ truth b t
judged_value ts b e t ws s vs v p es f ev et =
    ap truth_of ev ∙ subst (λ x. HaveValues ts b vs (indices x)) es (f ts b (subst (λ x. ArePlanned ts b x []) (sym es) p.planned)) e (starts ts b e ws p) ∙ ap (truth b) et

pub judged_grounds : (ts : List Tree) (b : Branch) (e : ℕ) (t : Tree) (ws s r : List Task) (vs : List (ℕ × Value)) (gs : List (ℕ × Vec ℕ Global)) (out : List ℕ) → IsDistinct ts → IsPlan ts b e ws [] → s ≡ ws → r ≡ ws
    → ((ts : List Tree) → (b : Branch) → ArePlanned ts b s [] → HaveValues ts b vs (indices s))
    → ((ts : List Tree) → (b : Branch) → IsDistinct ts → ArePlanned ts b r [] → HaveValues ts b vs (indices r) → HaveGrounds ts b gs (indices r))
    → out ≡ kept_grounds gs e → tree_at ts e ≡ t → (trees_at ts out ≡ grounds b t) × AreBelow (length ts) out
judged_grounds ts b e t ws s r vs gs out d p es er f g eo et =
    let h : HaveValues ts b vs (indices ws) = subst (λ x. HaveValues ts b vs (indices x)) es (f ts b (subst (λ x. ArePlanned ts b x []) (sym es) p.planned)) in
    let k : HaveGrounds ts b gs (indices ws) = subst (λ x. HaveGrounds ts b gs (indices x)) er (g ts b d (subst (λ x. ArePlanned ts b x []) (sym er) p.planned) (subst (λ x. HaveValues ts b vs (indices x)) (sym er) h)) in
    let a : AreGrounds ts b e (at_index e gs) = k e (starts ts b e ws p) in
    (ap (trees_at ts) eo ∙ a.0 ∙ ap (grounds b) et, subst (AreBelow (length ts)) (sym eo) a.1)
