-- The first formulas of lists by numbers.
use Rattle.std.specs.Prelude.{◌≡◌, ℕ, ◌<◌, Some, List, [], ◌∷◌}
use Rattle.std.proofs.Common.{get_or, refl, ap, sym, ◌∙◌, subst}
use Rattle.core_expr.specs.Tree.{Tree, true_, not_}
use Rattle.core_expr.specs.Nodes.{AreBelow, picked}
use Rattle.seq_calculus.specs.Calculus.{IsClosed}
use Rattle.search_trace.specs.declared.turn.Added.{Added}
use Rattle.search_trace.specs.Traces.{AddedUnder, added_trees}
use Rattle.search_definition.specs.Rules.Sides.{Alone}
use Rattle.search_definition.specs.Plain.{Left, left_side, rewrite_of}
use Rattle.search_definition.specs.Equations.{same_members}
use Rattle.proof_trees.specs.By.{head_of, tail_of}
use Rattle.proof_trees.specs.Told.{IsOne, IsTwo}
use Rattle.rule_proofs.specs.Lefts.{IsRight}
use Rattle.rule_proofs.specs.Cases.{AddsMembers, DeniesMembers}
use Rattle.equation_proofs.specs.Rewritings.{IsOther}
use Rattle.equation_proofs.specs.Firsts.{first_number, LeftTold, DeniedTold, SameTold, MembersTold, RewriteTold, OneClosed}

-- what is added first
pub first_tree : (ts : List Tree) (as' : List Added) (f : Tree) (fs : List Tree) → added_trees ts as' ≡ f ∷ fs → get_or ts (first_number as') true_ ≡ f
first_tree ts [] f fs e = cc
first_tree ts (a ∷ as') f fs e = cc

first_below : (n : ℕ) (ts : List Tree) (as' : List Added) (f : Tree) (fs : List Tree) → added_trees ts as' ≡ f ∷ fs → AddedUnder n as' → first_number as' < n
first_below n ts [] f fs e h = cc
first_below n ts (a ∷ as') f fs e h = h.0

alone : (us vs : List Tree) → Alone us ≡ Alone vs → us ≡ vs
alone us vs e = cc

-- what is told of the left side of a schema
pub left_below : (n : ℕ) (ts : List Tree) (as' : List Added) (f : Tree) → LeftTold f (added_trees ts as') → AddedUnder n as' → first_number as' < n
left_below n ts as' f t h = first_below n ts as' t.0.right [] (alone _ _ t.2) h

pub left_right : (ts : List Tree) (as' : List Added) (f : Tree) → LeftTold f (added_trees ts as') → IsRight (left_side f) (get_or ts (first_number as') true_)
left_right ts as' f t = subst (λ o. IsRight o (get_or ts (first_number as') true_)) (sym t.1) (sym (first_tree ts as' t.0.right [] (alone _ _ t.2)))

-- so for the Not of one, by the formula under the Not
some_left : (l m : Left) → Some l ≡ Some m → l ≡ m
some_left l m e = cc

not_same : (a b : Tree) → not_ a ≡ not_ b → a ≡ b
not_same a b e = cc

pub denied_below : (n : ℕ) (ts : List Tree) (as' : List Added) (f : Tree) → DeniedTold f (added_trees ts as') → AddedUnder n as' → first_number as' < n
denied_below n ts as' f t h = first_below n ts as' (not_ t.1.right) [] (alone _ _ t.4) h

pub denied_right : (ts : List Tree) (as' : List Added) (f a r : Tree) → DeniedTold f (added_trees ts as') → f ≡ not_ a → get_or ts (first_number as') true_ ≡ not_ r → IsRight (left_side a) r
denied_right ts as' f a r t e g =
    let same : t.0 ≡ a = not_same t.0 a (sym t.2 ∙ e) in
    let right : t.1.right ≡ r = not_same t.1.right r (sym (first_tree ts as' (not_ t.1.right) [] (alone _ _ t.4)) ∙ g) in
    subst (λ o. IsRight o r) (sym t.3 ∙ ap left_side same) right

-- equations of sets
pub same_below : (n : ℕ) (ts : List Tree) (as' : List Added) (f : Tree) → SameTold f (added_trees ts as') → AddedUnder n as' → first_number as' < n
same_below n ts as' f t h = first_below n ts as' (same_members t.0 t.1) [] (alone _ _ t.3) h

pub same_adds : (ts : List Tree) (as' : List Added) (f : Tree) → SameTold f (added_trees ts as') → AddsMembers f (get_or ts (first_number as') true_)
same_adds ts as' f t = subst (λ x. AddsMembers x (get_or ts (first_number as') true_)) (sym t.2) (first_tree ts as' (same_members t.0 t.1) [] (alone _ _ t.3))

pub members_below : (n : ℕ) (ts : List Tree) (as' : List Added) (f : Tree) → MembersTold f (added_trees ts as') → AddedUnder n as' → first_number as' < n
members_below n ts as' f t h = first_below n ts as' (not_ (same_members t.0 t.1)) [] (alone _ _ t.3) h

pub members_denies : (ts : List Tree) (as' : List Added) (f : Tree) → MembersTold f (added_trees ts as') → DeniesMembers f (get_or ts (first_number as') true_)
members_denies ts as' f t = subst (λ x. DeniesMembers x (get_or ts (first_number as') true_)) (sym t.2) (first_tree ts as' (not_ (same_members t.0 t.1)) [] (alone _ _ t.3))

-- the first and the second of numbers
pub head_at : (ts : List Tree) (is : List ℕ) (s : Tree) (us : List Tree) → picked ts is ≡ s ∷ us → get_or ts (get_or is 0 0) true_ ≡ head_of (picked ts is)
head_at ts [] s us e = cc
head_at ts (i ∷ is) s us e = refl

pub head_below : (n : ℕ) (ts : List Tree) (is : List ℕ) (s : Tree) (us : List Tree) → picked ts is ≡ s ∷ us → AreBelow n is → get_or is 0 0 < n
head_below n ts [] s us e h = cc
head_below n ts (i ∷ is) s us e h = h.0

pub next_at : (ts : List Tree) (is : List ℕ) (s t : Tree) (us : List Tree) → picked ts is ≡ s ∷ t ∷ us → get_or ts (get_or is 1 0) true_ ≡ head_of (tail_of (picked ts is))
next_at ts [] s t us e = cc
next_at ts (i ∷ []) s t us e = cc
next_at ts (i ∷ j ∷ is) s t us e = refl

pub next_below : (n : ℕ) (ts : List Tree) (is : List ℕ) (s t : Tree) (us : List Tree) → picked ts is ≡ s ∷ t ∷ us → AreBelow n is → get_or is 1 0 < n
next_below n ts [] s t us e h = cc
next_below n ts (i ∷ []) s t us e h = cc
next_below n ts (i ∷ j ∷ is) s t us e h = head_of_rest h.1
  where
    head_of_rest : AreBelow n (j ∷ is) → j < n
    head_of_rest k = k.0

-- one term, or two
pub one_at : (ts : List Tree) (is : List ℕ) → IsOne (picked ts is) → get_or ts (get_or is 0 0) true_ ≡ head_of (picked ts is)
one_at ts is h = head_at ts is h.0 [] h.1

pub one_below : (n : ℕ) (ts : List Tree) (is : List ℕ) → IsOne (picked ts is) → AreBelow n is → get_or is 0 0 < n
one_below n ts is h b = head_below n ts is h.0 [] h.1 b

pub closed_at : (ts : List Tree) (is : List ℕ) → OneClosed (picked ts is) → get_or ts (get_or is 0 0) true_ ≡ head_of (picked ts is)
closed_at ts is h = head_at ts is h.0 [] h.1

pub closed_below : (n : ℕ) (ts : List Tree) (is : List ℕ) → OneClosed (picked ts is) → AreBelow n is → get_or is 0 0 < n
closed_below n ts is h b = head_below n ts is h.0 [] h.1 b

pub closed_closed : (ts : List Tree) (is : List ℕ) → OneClosed (picked ts is) → IsClosed (get_or ts (get_or is 0 0) true_)
closed_closed ts is h = subst IsClosed (sym (head_at ts is h.0 [] h.1 ∙ ap head_of h.1)) h.2

pub two_at : (ts : List Tree) (is : List ℕ) → IsTwo (picked ts is) → (get_or ts (get_or is 0 0) true_ ≡ head_of (picked ts is)) × (get_or ts (get_or is 1 0) true_ ≡ head_of (tail_of (picked ts is)))
two_at ts is h = (head_at ts is h.0 (h.1 ∷ []) h.2, next_at ts is h.0 h.1 [] h.2)

pub two_below : (n : ℕ) (ts : List Tree) (is : List ℕ) → IsTwo (picked ts is) → AreBelow n is → (get_or is 0 0 < n) × (get_or is 1 0 < n)
two_below n ts is h b = (head_below n ts is h.0 (h.1 ∷ []) h.2 b, next_below n ts is h.0 h.1 [] h.2 b)

-- the two sides of an equation of a schema
pub rewrite_at : (ts : List Tree) (is : List ℕ) → RewriteTold (picked ts is) → get_or ts (get_or is 0 0) true_ ≡ head_of (picked ts is)
rewrite_at ts is h = head_at ts is h.0.from (h.0.to ∷ []) h.2

pub rewrite_below : (n : ℕ) (ts : List Tree) (is : List ℕ) → RewriteTold (picked ts is) → AreBelow n is → (get_or is 0 0 < n) × (get_or is 1 0 < n)
rewrite_below n ts is h b = (head_below n ts is h.0.from (h.0.to ∷ []) h.2 b, next_below n ts is h.0.from h.0.to [] h.2 b)

pub rewrite_sides : (ts : List Tree) (is : List ℕ) → RewriteTold (picked ts is) → IsOther (rewrite_of (get_or ts (get_or is 0 0) true_)) (get_or ts (get_or is 0 0) true_) (get_or ts (get_or is 1 0) true_)
rewrite_sides ts is h =
    let a : get_or ts (get_or is 0 0) true_ ≡ h.0.from = rewrite_at ts is h ∙ ap head_of h.2 in
    let b : get_or ts (get_or is 1 0) true_ ≡ h.0.to = next_at ts is h.0.from h.0.to [] h.2 ∙ ap (λ us. head_of (tail_of us)) h.2 in
    subst (λ o. IsOther o (get_or ts (get_or is 0 0) true_) (get_or ts (get_or is 1 0) true_)) (sym h.1 ∙ ap rewrite_of (sym a)) (sym a, sym b)
