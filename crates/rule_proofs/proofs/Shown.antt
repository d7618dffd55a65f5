-- Values with their proofs, task by task.
use Rattle.std.specs.Prelude.{◌≡◌, ℕ, ◌+◌, ◌*◌, ◌<◌, Option, Some, None, List, [], ◌∷◌, ◌++◌, length}
use Rattle.std.proofs.Common.{refl, ap, sym, ◌∙◌, subst, arith, append_assoc}
use Rattle.core_expr.specs.Tree.{Tree, not_, and_, or_, imp_, iff_}
use Rattle.core_expr.specs.Terms.{nodes}
use Rattle.core_expr.specs.Tree.Tree.{bound, app, node, bind}
use Rattle.seq_calculus.specs.Calculus.{Proof}
use Rattle.seq_calculus.specs.Calculus.Rule.{TrueR}
use Rattle.search_definition.specs.Branches.{Branch}
use Rattle.search_definition.specs.Values.{Truth, Whole, opposite, both_true, one_true, implied, same_truth, truth_by, truth, whole}
use Rattle.search_definition.specs.Values.Truth.{Unknown}
use Rattle.search_definition.specs.Values.Whole.{Stands, ByItself, Mirrored, NotStands, FalseItself, NotMirrored, Undecided}
use Rattle.term_bank.specs.Banks.{tree_at}
use Rattle.term_shapes.specs.declared.shape.Shape.{Shape}
use Rattle.term_shapes.specs.declared.shape.Shape.TheVariants as shape
use Rattle.term_shapes.specs.Shapes.{HasShape, named_parts}
use Rattle.core_expr.specs.Nodes.{AreBelow}
use Rattle.proof_writer.specs.Shapes.{leaf, first_of, second_of, rest_of}
use Rattle.proof_trees.specs.Valued.{whole_by, not_by, and_by, or_by, imp_by, iff_by, shows}
use Rattle.rule_proofs.specs.declared.value.Value.{Value}
use Rattle.rule_proofs.specs.declared.tasks.Task.{Task}
use Rattle.rule_proofs.specs.declared.tasks.Task.TheVariants.{Visit, Join}
use Rattle.rule_proofs.specs.declared.value.Reason.{Reason}
use Rattle.rule_proofs.specs.declared.value.Reason.TheVariants as reason
use Rattle.rule_proofs.specs.Values.{truth_of, whole_of}
use Rattle.rule_proofs.proofs.Lefts.{below_wider}
use Rattle.rule_proofs.specs.Shown.{Shown, visited, one_joined, two_joined, joined, after, done, laid, shown_of, opened, whole_shown, IsTurn, visited_as, IsVisited, AreUnder, weight, weights}

some_is : {A : Type 0} {x y : A} → Some x ≡ Some y → x ≡ y
some_is q = cc

none_some : {A : Type 0} {y : A} → None ≡ Some y → ⊥
none_some q = cc

pub laid_last : (acc : List Truth) (vs : List Value) (v : Value) → laid acc (vs ++ v ∷ []) ≡ truth_of v ∷ laid acc vs
laid_last acc [] v = refl
laid_last acc (u ∷ vs) v = laid_last (truth_of u ∷ acc) vs v

-- the last of the tasks comes first
pub done-both : (ts : List Tree) (e : Branch) (xs ys : List Task) (s : Shown) → done ts e (xs ++ ys) s ≡ done ts e xs (done ts e ys s)
done-both ts e [] ys s = refl
done-both ts e (x ∷ xs) ys s = ap (after ts e x) (done-both ts e xs ys s)

module _ (ts : List Tree) (e : Branch) (f : ℕ) (s : Shown) where
  t : Tree
  t = tree_at ts f

  -- a connective without a value as a whole has the value of its parts
  pub opened_done : (x : Shape) (us tasks : List Task) → HasShape ts (tree_at ts f) x → whole e (tree_at ts f) ≡ Undecided → opened x f ≡ Some us → done ts e (tasks ++ us) s ≡ done ts e tasks (visited e (tree_at ts f) s)
  unfolding truth shows
  opened_done x us tasks h w q = done-both ts e tasks us s ∙ ap (done ts e tasks) (step x h q)
    where
      of : (a : Tree) → tree_at ts f ≡ a → (z : Shown) → (whole e a ≡ Undecided → joined a z ≡ visited e a s) → joined (tree_at ts f) z ≡ visited e (tree_at ts f) s
      of a p z k = subst (λ y. joined y z ≡ visited e y s) (sym p) (k (ap (whole e) (sym p) ∙ w))

      inside : {vs : List Task} → Some vs ≡ Some us → vs ≡ us
      inside q = cc

      not-step : (a : Tree) → whole e (not_ a) ≡ Undecided → joined (not_ a) (visited e a s) ≡ visited e (not_ a) s
      not-step a w = λ i. record { values = truth_by (sym w i) (opposite (truth e a)) ∷ s.values; proofs = whole_by (sym w i) (not_ a) (not_by (truth e a) a (shows e a)) ∷ s.proofs }

      and-step : (a b : Tree) → whole e (and_ a b) ≡ Undecided → joined (and_ a b) (visited e b (visited e a s)) ≡ visited e (and_ a b) s
      and-step a b w = λ i. record { values = truth_by (sym w i) (both_true (truth e a) (truth e b)) ∷ s.values; proofs = whole_by (sym w i) (and_ a b) (and_by (truth e a) (truth e b) a b (shows e a) (shows e b)) ∷ s.proofs }

      or-step : (a b : Tree) → whole e (or_ a b) ≡ Undecided → joined (or_ a b) (visited e b (visited e a s)) ≡ visited e (or_ a b) s
      or-step a b w = λ i. record { values = truth_by (sym w i) (one_true (truth e a) (truth e b)) ∷ s.values; proofs = whole_by (sym w i) (or_ a b) (or_by (truth e a) (truth e b) a b (shows e a) (shows e b)) ∷ s.proofs }

      imp-step : (a b : Tree) → whole e (imp_ a b) ≡ Undecided → joined (imp_ a b) (visited e b (visited e a s)) ≡ visited e (imp_ a b) s
      imp-step a b w = λ i. record { values = truth_by (sym w i) (implied (truth e a) (truth e b)) ∷ s.values; proofs = whole_by (sym w i) (imp_ a b) (imp_by (truth e a) (truth e b) a b (shows e a) (shows e b)) ∷ s.proofs }

      iff-step : (a b : Tree) → whole e (iff_ a b) ≡ Undecided → joined (iff_ a b) (visited e b (visited e a s)) ≡ visited e (iff_ a b) s
      iff-step a b w = λ i. record { values = truth_by (sym w i) (same_truth (truth e a) (truth e b)) ∷ s.values; proofs = whole_by (sym w i) (iff_ a b) (iff_by (truth e a) (truth e b) a b (shows e a) (shows e b)) ∷ s.proofs }

      step : (x : Shape) → HasShape ts (tree_at ts f) x → opened x f ≡ Some us → done ts e us s ≡ visited e (tree_at ts f) s
      step (shape.Not a) h q = ap (λ vs. done ts e vs s) (sym (inside q)) ∙ of (not_ (tree_at ts a)) h (visited e (tree_at ts a) s) (not-step (tree_at ts a))
      step (shape.And a b) h q = ap (λ vs. done ts e vs s) (sym (inside q)) ∙ of (and_ (tree_at ts a) (tree_at ts b)) h (visited e (tree_at ts b) (visited e (tree_at ts a) s)) (and-step (tree_at ts a) (tree_at ts b))
      step (shape.Or a b) h q = ap (λ vs. done ts e vs s) (sym (inside q)) ∙ of (or_ (tree_at ts a) (tree_at ts b)) h (visited e (tree_at ts b) (visited e (tree_at ts a) s)) (or-step (tree_at ts a) (tree_at ts b))
      step (shape.Imp a b) h q = ap (λ vs. done ts e vs s) (sym (inside q)) ∙ of (imp_ (tree_at ts a) (tree_at ts b)) h (visited e (tree_at ts b) (visited e (tree_at ts a) s)) (imp-step (tree_at ts a) (tree_at ts b))
      step (shape.Iff a b) h q = ap (λ vs. done ts e vs s) (sym (inside q)) ∙ of (iff_ (tree_at ts a) (tree_at ts b)) h (visited e (tree_at ts b) (visited e (tree_at ts a) s)) (iff-step (tree_at ts a) (tree_at ts b))
      step _ h q = absurd (never q)
        where
          never : None ≡ Some us → ⊥
          never q = cc

-- any other formula has its value as a whole, or none
pub alone_shown : (ts : List Tree) (e : Branch) (t : Tree) (f : ℕ) (x : Shape) → HasShape ts t x → opened x f ≡ None → (truth e t ≡ truth_by (whole e t) Unknown) × (shows e t ≡ whole_by (whole e t) t (leaf TrueR))
unfolding truth shows
alone_shown ts e t f (shape.Not a) h q = absurd (let z : Some (Join f ∷ Visit a ∷ []) ≡ None = q in cc)
alone_shown ts e t f (shape.And a b) h q = absurd (let z : Some (Join f ∷ Visit b ∷ Visit a ∷ []) ≡ None = q in cc)
alone_shown ts e t f (shape.Or a b) h q = absurd (let z : Some (Join f ∷ Visit b ∷ Visit a ∷ []) ≡ None = q in cc)
alone_shown ts e t f (shape.Imp a b) h q = absurd (let z : Some (Join f ∷ Visit b ∷ Visit a ∷ []) ≡ None = q in cc)
alone_shown ts e t f (shape.Iff a b) h q = absurd (let z : Some (Join f ∷ Visit b ∷ Visit a ∷ []) ≡ None = q in cc)
alone_shown ts e t f _ h q = subst (λ y. (truth e y ≡ truth_by (whole e y) Unknown) × (shows e y ≡ whole_by (whole e y) y (leaf TrueR))) (sym h) (refl, refl)

-- a formula that has a value as a whole has just that
pub decided_shown : (e : Branch) (t : Tree) → (whole e t ≡ Undecided → ⊥) → (truth e t ≡ truth_by (whole e t) Unknown) × (shows e t ≡ whole_by (whole e t) t (leaf TrueR))
unfolding truth shows
decided_shown e t n = go t n
  where
    same : (w : Whole) (f : Tree) (x : Truth) (p : Proof) → (w ≡ Undecided → ⊥) → (truth_by w x ≡ truth_by w Unknown) × (whole_by w f p ≡ whole_by w f (leaf TrueR))
    same Stands f x p n = (refl, refl)
    same ByItself f x p n = (refl, refl)
    same Mirrored f x p n = (refl, refl)
    same NotStands f x p n = (refl, refl)
    same FalseItself f x p n = (refl, refl)
    same NotMirrored f x p n = (refl, refl)
    same Undecided f x p n = absurd (n refl)

    go : (t : Tree) → (whole e t ≡ Undecided → ⊥) → (truth e t ≡ truth_by (whole e t) Unknown) × (shows e t ≡ whole_by (whole e t) t (leaf TrueR))
    go (not_ a) n = same (whole e (not_ a)) (not_ a) (opposite (truth e a)) (not_by (truth e a) a (shows e a)) n
    go (and_ a b) n = same (whole e (and_ a b)) (and_ a b) (both_true (truth e a) (truth e b)) (and_by (truth e a) (truth e b) a b (shows e a) (shows e b)) n
    go (or_ a b) n = same (whole e (or_ a b)) (or_ a b) (one_true (truth e a) (truth e b)) (or_by (truth e a) (truth e b) a b (shows e a) (shows e b)) n
    go (imp_ a b) n = same (whole e (imp_ a b)) (imp_ a b) (implied (truth e a) (truth e b)) (imp_by (truth e a) (truth e b) a b (shows e a) (shows e b)) n
    go (iff_ a b) n = same (whole e (iff_ a b)) (iff_ a b) (same_truth (truth e a) (truth e b)) (iff_by (truth e a) (truth e b) a b (shows e a) (shows e b)) n
    go _ n = (refl, refl)

positive : (t : Tree) → 0 < nodes t
positive (bound i) = omega arith
positive (app f ps) = omega arith
positive (node h ns ps) = omega arith
positive (bind b ps e) = omega arith

pub undecided_of : (r : Reason) → whole_of r ≡ Undecided → r ≡ reason.Undecided
undecided_of reason.Stands e = cc
undecided_of reason.ByItself e = cc
undecided_of reason.Mirrored e = cc
undecided_of reason.NotStands e = cc
undecided_of reason.FalseItself e = cc
undecided_of reason.NotMirrored e = cc
undecided_of reason.Undecided e = refl

-- a value and a proof more
pub settled_shown : (vs us : List Value) (ps qs : List Proof) (w : Whole) (f : Tree) (v : Value) → us ≡ vs ++ v ∷ [] → truth_of v ≡ truth_by w Unknown → qs ≡ whole_by w f (leaf TrueR) ∷ ps → shown_of us qs ≡ whole_shown w f (shown_of vs ps)
settled_shown vs us ps qs w f v e t q = λ i. record { values = (ap (laid []) e ∙ laid_last [] vs v ∙ ap (λ x. x ∷ laid [] vs) t) i; proofs = q i }

-- a value as a whole is the formula's
pub whole_visited : (e : Branch) (t : Tree) (s : Shown) → (truth e t ≡ truth_by (whole e t) Unknown) × (shows e t ≡ whole_by (whole e t) t (leaf TrueR)) → whole_shown (whole e t) t s ≡ visited e t s
whole_visited e t s h = λ i. record { values = sym h.0 i ∷ s.values; proofs = sym h.1 i ∷ s.proofs }

pub under-both : (n : ℕ) (xs ys : List Task) → AreUnder n xs → AreUnder n ys → AreUnder n (xs ++ ys)
under-both n [] ys h k = k
under-both n (Visit i ∷ xs) ys h k = (h.0, under-both n xs ys h.1 k)
under-both n (Join i ∷ xs) ys h k = (h.0, under-both n xs ys h.1 k)

pub weights_both : (ts : List Tree) (xs ys : List Task) → weights ts (xs ++ ys) ≡ weights ts xs + weights ts ys
weights_both ts [] ys = omega arith
weights_both ts (x ∷ xs) ys = omega (arith, weights_both ts xs ys)

-- what is opened is of parts, and is lighter than the formula
pub opened_under : (n f : ℕ) (x : Shape) (us : List Task) → f < n → AreBelow n (named_parts x) → opened x f ≡ Some us → AreUnder n us
opened_under n f (shape.Not a) us l b q = subst (AreUnder n) (some_is q) (l, (b.0, tt))
opened_under n f (shape.And x y) us l b q = subst (AreUnder n) (some_is q) (l, (b.1.0, (b.0, tt)))
opened_under n f (shape.Or x y) us l b q = subst (AreUnder n) (some_is q) (l, (b.1.0, (b.0, tt)))
opened_under n f (shape.Imp x y) us l b q = subst (AreUnder n) (some_is q) (l, (b.1.0, (b.0, tt)))
opened_under n f (shape.Iff x y) us l b q = subst (AreUnder n) (some_is q) (l, (b.1.0, (b.0, tt)))
opened_under n f _ us l b q = absurd (none_some q)

pub opened_lighter : (ts : List Tree) (f : ℕ) (x : Shape) (us : List Task) → HasShape ts (tree_at ts f) x → opened x f ≡ Some us → weights ts us < 2 * nodes (tree_at ts f)
opened_lighter ts f (shape.Not a) us h q = subst (λ vs. weights ts vs < 2 * nodes (tree_at ts f)) (some_is q) (subst (λ t. weights ts (Join f ∷ Visit a ∷ []) < 2 * nodes t) (sym h) (omega arith))
opened_lighter ts f (shape.And x y) us h q = subst (λ vs. weights ts vs < 2 * nodes (tree_at ts f)) (some_is q) (subst (λ t. weights ts (Join f ∷ Visit y ∷ Visit x ∷ []) < 2 * nodes t) (sym h) (omega arith))
opened_lighter ts f (shape.Or x y) us h q = subst (λ vs. weights ts vs < 2 * nodes (tree_at ts f)) (some_is q) (subst (λ t. weights ts (Join f ∷ Visit y ∷ Visit x ∷ []) < 2 * nodes t) (sym h) (omega arith))
opened_lighter ts f (shape.Imp x y) us h q = subst (λ vs. weights ts vs < 2 * nodes (tree_at ts f)) (some_is q) (subst (λ t. weights ts (Join f ∷ Visit y ∷ Visit x ∷ []) < 2 * nodes t) (sym h) (omega arith))
opened_lighter ts f (shape.Iff x y) us h q = subst (λ vs. weights ts vs < 2 * nodes (tree_at ts f)) (some_is q) (subst (λ t. weights ts (Join f ∷ Visit y ∷ Visit x ∷ []) < 2 * nodes t) (sym h) (omega arith))
opened_lighter ts f _ us h q = absurd (none_some q)

-- a formula without a value as a whole is visited
pub undecided_turn : (ts : List Tree) (e : Branch) (f : ℕ) (x : Shape) (old new : List Task) (s z : Shown) → HasShape ts (tree_at ts f) x → AreBelow f (named_parts x) → whole e (tree_at ts f) ≡ Undecided → IsVisited x f (tree_at ts f) old s new z → IsTurn ts e (Visit f) old s new z
undecided_turn ts e f x old new s z h b w v = go (opened x f) refl v
  where
    go : (o : Option (List Task)) → opened x f ≡ o → visited_as o (tree_at ts f) old s new z → IsTurn ts e (Visit f) old s new z
    go None q v = record {
      done = (λ i. done ts e (v.0 i) (v.1 i)) ∙ ap (λ y. done ts e old (whole_shown y (tree_at ts f) s)) (sym w) ∙ ap (done ts e old) (whole_visited e (tree_at ts f) s (alone_shown ts e (tree_at ts f) f x h q));
      under = λ n u. subst (AreUnder n) (sym v.0) u.1;
      lighter = subst (λ us. weights ts us < weights ts old + weight ts (Visit f)) (sym v.0) (omega (arith, positive (tree_at ts f)));
    }
    go (Some us) q v = record {
      done = (λ i. done ts e (v.0 i) (v.1 i)) ∙ opened_done ts e f s x us old h w q;
      under = λ n u. subst (AreUnder n) (sym v.0) (under-both n old us u.1 (opened_under n f x us u.0 (below_wider f n (named_parts x) (omega (arith, u.0)) b) q));
      lighter = subst (λ vs. weights ts vs < weights ts old + weight ts (Visit f)) (sym v.0) (omega (arith, weights_both ts old us, opened_lighter ts f x us h q));
    }

-- a formula that has a value as a whole is visited
pub decided_turn : (ts : List Tree) (e : Branch) (f : ℕ) (tasks : List Task) (s z : Shown) (w : Whole) → w ≡ whole e (tree_at ts f) → (w ≡ Undecided → ⊥) → z ≡ whole_shown w (tree_at ts f) s → IsTurn ts e (Visit f) tasks s tasks z
decided_turn ts e f tasks s z w q n v = record {
  done = ap (done ts e tasks) (v ∙ ap (λ y. whole_shown y (tree_at ts f) s) q ∙ whole_visited e (tree_at ts f) s (decided_shown e (tree_at ts f) (λ u. n (q ∙ u))));
  under = λ n u. u.1;
  lighter = omega (arith, positive (tree_at ts f));
}

-- the two latest values
pub laid_two : (vs us : List Value) (x y : Value) → us ≡ vs ++ x ∷ y ∷ [] → laid [] us ≡ truth_of y ∷ truth_of x ∷ laid [] vs
laid_two vs us x y e = ap (laid []) (e ∙ sym (append_assoc vs (x ∷ []) (y ∷ []))) ∙ laid_last [] (vs ++ x ∷ []) y ∙ ap (λ l. truth_of y ∷ l) (laid_last [] vs x)

pub laid_few : (vs : List Value) (acc : List Truth) (n : ℕ) → n ≡ length acc + length vs → length (laid acc vs) ≡ n
laid_few [] acc n e = omega arith
laid_few (v ∷ vs) acc n e = laid_few vs (truth_of v ∷ acc) n (omega arith)

-- where two values were, they are joined
pub two_shown : (op : Truth → Truth → Truth) (by : Truth → Truth → Proof → Proof → Proof) (vs us ws : List Value) (x y z : Value) (ps qs : List Proof) → us ≡ vs ++ x ∷ y ∷ [] → ws ≡ vs ++ z ∷ [] → truth_of z ≡ op (truth_of x) (truth_of y)
    → qs ≡ by (truth_of x) (truth_of y) (second_of ps) (first_of ps) ∷ rest_of (rest_of ps) → shown_of ws qs ≡ two_joined op by (laid [] us) ps
two_shown op by vs us ws x y z ps qs e d t q =
    (λ i. record { values = (ap (laid []) d ∙ laid_last [] vs z ∙ ap (λ v. v ∷ laid [] vs) t) i; proofs = q i }) ∙ sym (ap (λ l. two_joined op by l ps) (laid_two vs us x y e))

pub few_shown : (op : Truth → Truth → Truth) (by : Truth → Truth → Proof → Proof → Proof) (vs : List Value) (ps : List Proof) → length vs < 2 → shown_of vs ps ≡ two_joined op by (laid [] vs) ps
few_shown op by [] ps h = refl
few_shown op by (v ∷ []) ps h = refl
few_shown op by (v ∷ u ∷ vs) ps h = absurd (omega arith)

-- so for one
pub one_shown : (op : Truth → Truth) (by : Truth → Proof → Proof) (vs us ws : List Value) (x z : Value) (ps qs : List Proof) → us ≡ vs ++ x ∷ [] → ws ≡ vs ++ z ∷ [] → truth_of z ≡ op (truth_of x)
    → qs ≡ by (truth_of x) (first_of ps) ∷ rest_of ps → shown_of ws qs ≡ one_joined op by (laid [] us) ps
one_shown op by vs us ws x z ps qs e d t q =
    (λ i. record { values = (ap (laid []) d ∙ laid_last [] vs z ∙ ap (λ v. v ∷ laid [] vs) t) i; proofs = q i }) ∙ sym (ap (λ l. one_joined op by l ps) (ap (laid []) e ∙ laid_last [] vs x))

pub none_shown : (op : Truth → Truth) (by : Truth → Proof → Proof) (vs : List Value) (ps : List Proof) → vs ≡ [] → shown_of vs ps ≡ one_joined op by (laid [] vs) ps
none_shown op by [] ps h = refl
none_shown op by (v ∷ vs) ps h = absurd (let z : v ∷ vs ≡ [] = h in cc)
