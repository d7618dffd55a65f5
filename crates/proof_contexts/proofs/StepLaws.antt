-- One lemma for each kind of step.
use Rattle.std.specs.Prelude.{◌≡◌, ℕ, suc, ◌≤◌, Bool, true, false, ◌&&◌, cond, Option, Some, None, List, [], ◌∷◌, map}
use Rattle.std.proofs.Common.{refl, ap, sym, ◌∙◌, arith, subst}
use Rattle.core_expr.specs.declared.head.Sym.{Sym}
use Rattle.core_expr.specs.Tree.{Tree, and_, imp_, all_, ex_, in_}
use Rattle.core_expr.specs.Tree.Tree.{bound}
use Rattle.core_expr.specs.Tree.Parts.{end, part}
use Rattle.core_expr.specs.Put.{inst, apply_body}
use Rattle.core_expr.specs.Terms.{same}
use Rattle.core_expr.proofs.Laws.{sub-inst, put_closed}
use Rattle.core_expr.proofs.Equal.{same-true}
use Rattle.seq_calculus.specs.Calculus.{HasAll, IsClosed, Der}
use Rattle.obligation.specs.declared.obligation.Definition.{Definition}
use Rattle.proof_contexts.specs.Expansion.{abstract, name, IsBelow}
use Rattle.proof_contexts.specs.Steps.{Item, Fact}
use Rattle.proof_contexts.specs.Steps.Item.{New, NewIn, Given}
use Rattle.proof_contexts.specs.Steps.Fact.{Cited, Plain}
use Rattle.proof_contexts.specs.Contexts.{Entry, Context, Pair, told, usable, add, with_goal, with_items, fact_of, picked, as_all, as_ex, as_imp, as_and, as_in, given, usable_of, unfolded_by, same_set, if_within, within, all_in, ex_in}
use Rattle.proof_contexts.specs.Leaves.{plain_leaves, AreProved}
use Rattle.proof_contexts.specs.Right.{IsGood, IsNew, level_items, RightItems, RightFacts}
use Rattle.proof_contexts.proofs.Rules.{HasAll-itself, left_true, right_true}
use Rattle.proof_contexts.proofs.Putting.{shift_nothing, expansion, whole, ExpandsAll, IsFalling, undefined-none, inst-abstract, Below-more}
use Rattle.proof_contexts.proofs.Joins.{cut_in, imp_r, and_l, new_all, new_ex}
use Rattle.proof_contexts.proofs.Covering.{plains, usable_covered, Holds, Holds-more, Holds-cons, Holds-add, Good-full, from_leaf}

-- forms
pub as_all-is : (e p : Tree) → as_all e ≡ Some p → e ≡ all_ p
as_all-is (all_ q) p h = cc
as_all-is _ p h = cc

pub as_ex-is : (e p : Tree) → as_ex e ≡ Some p → e ≡ ex_ p
as_ex-is (ex_ q) p h = cc
as_ex-is _ p h = cc

some_pair : (a b : Tree) (q : Pair) → Some (record { first = a; second = b }) ≡ Some q → (a ≡ q.first) × (b ≡ q.second)
some_pair a b q h =
    let w : record { first = a; second = b } ≡ q = cc in
    (ap (λ (x : Pair). x.first) w, ap (λ (x : Pair). x.second) w)

pub as_imp-is : (e : Tree) (q : Pair) → as_imp e ≡ Some q → e ≡ imp_ q.first q.second
as_imp-is (imp_ a b) q h = let w = some_pair a b q h in λ i. imp_ (w.0 i) (w.1 i)
as_imp-is _ q h = cc

as_and-is : (e : Tree) (q : Pair) → as_and e ≡ Some q → e ≡ and_ q.first q.second
as_and-is (and_ a b) q h = let w = some_pair a b q h in λ i. and_ (w.0 i) (w.1 i)
as_and-is _ q h = cc

as_in-is : (e : Tree) (q : Pair) → as_in e ≡ Some q → e ≡ in_ q.first q.second
as_in-is (in_ a b) q h = let w = some_pair a b q h in λ i. in_ (w.0 i) (w.1 i)
as_in-is _ q h = cc

some_cond : (b : Bool) (x y : Tree) → cond b (Some x) None ≡ Some y → (b ≡ true) × (x ≡ y)
some_cond true x y h = (refl, cc)
some_cond false x y h = (cc, cc)

none_some : (p : Tree) (A : Type 0) → None ≡ Some p → A
none_some p A h = absurd (differ h)
  where
    differ : None ≡ Some p → ⊥
    differ h = cc

module _ (table : List Definition) where
  -- the set in a bounded form, and what it says
  abbrev pub Bounded : (Tree → Tree) → (Tree → Tree → Tree) → Context → Tree → Tree → Tree → Type 0
  Bounded quantifier joined c s e p = (t : Tree) × (e ≡ quantifier (joined (in_ (bound 0) t) p)) × (unfolded_by table c.defs t ≡ unfolded_by table c.defs s)

  -- a formula under a binder that is of the bounded form
  within_is : (c : Context) (s p : Tree) (o : Option Pair) → within table c s o ≡ Some p → (q : Pair) × (o ≡ Some q) × ((t : Tree) × (q.first ≡ in_ (bound 0) t) × (q.second ≡ p) × (unfolded_by table c.defs t ≡ unfolded_by table c.defs s))
  within_is c s p None h = none_some p _ h
  within_is c s p (Some q) h = (q, refl, go (as_in q.first) refl h)
    where
      go : (m : Option Pair) → as_in q.first ≡ m → given m None (λ m. if_within table c s m q.second) ≡ Some p → (t : Tree) × (q.first ≡ in_ (bound 0) t) × (q.second ≡ p) × (unfolded_by table c.defs t ≡ unfolded_by table c.defs s)
      go None e k = none_some p _ k
      go (Some m) e k =
          let w = some_cond (same m.first (bound 0) && same_set table c m.second s) q.second p k in
          let b : m.first ≡ bound 0 = same-true m.first (bound 0) (left_true (same m.first (bound 0)) (same_set table c m.second s) w.0) in
          (m.second, as_in-is q.first m e ∙ (λ i. in_ (b i) m.second), w.1, same-true (unfolded_by table c.defs m.second) (unfolded_by table c.defs s) (right_true (same m.first (bound 0)) (same_set table c m.second s) w.0))

  pub all_in-is : (c : Context) (s e p : Tree) → all_in table c s e ≡ Some p → Bounded (λ x. all_ x) (λ x y. imp_ x y) c s e p
  all_in-is c s e p h = go (as_all e) refl h
    where
      go : (o : Option Tree) → as_all e ≡ o → given o None (λ b. within table c s (as_imp b)) ≡ Some p → Bounded (λ x. all_ x) (λ x y. imp_ x y) c s e p
      go None is k = none_some p _ k
      go (Some b) is k =
          let w = within_is c s p (as_imp b) k in
          let t = w.2 in
          (t.0, as_all-is e b is ∙ ap (λ (x : Tree). all_ x) (as_imp-is b w.0 w.1 ∙ (λ i. imp_ (t.1 i) (t.2 i))), t.3)

  pub ex_in-is : (c : Context) (s e p : Tree) → ex_in table c s e ≡ Some p → Bounded (λ x. ex_ x) (λ x y. and_ x y) c s e p
  ex_in-is c s e p h = go (as_ex e) refl h
    where
      go : (o : Option Tree) → as_ex e ≡ o → given o None (λ b. within table c s (as_and b)) ≡ Some p → Bounded (λ x. ex_ x) (λ x y. and_ x y) c s e p
      go None is k = none_some p _ k
      go (Some b) is k =
          let w = within_is c s p (as_and b) k in
          let t = w.2 in
          (t.0, as_ex-is e b is ∙ ap (λ (x : Tree). ex_ x) (as_and-is b w.0 w.1 ∙ (λ i. and_ (t.1 i) (t.2 i))), t.3)

-- t for the variable in a bounded form's first part
pub inst_member : (s t : Tree) → IsClosed s → inst (in_ (bound 0) s) t ≡ in_ t s
inst_member s t h = λ i. in_ (shift_nothing 0 t i) (put_closed 0 0 (part t end) s (omega arith) h i)

module _ (rank : Sym → ℕ) (table : List Definition) (may : ℕ → Bool) where
  abbrev pub Good : ℕ → Tree → Type 0
  Good n e = IsGood rank table n e

  abbrev pub Keeps : ℕ → List Tree → List Entry → Type 0
  Keeps n g k = Holds table may rank n g k

  -- the goal follows from every list that holds what is known
  abbrev pub Proves : ℕ → Context → Type 0
  Proves n c = (g : List Tree) → Keeps n g c.known → Good n (whole table c.goal) → Der g (whole table c.goal ∷ [])

  pub RightItems-good : (make : List Item → Tree → Tree) (n : ℕ) (is : List Item) (g : Tree) → RightItems rank table make n is g → Good n (make is g)
  RightItems-good make n [] g r = r
  RightItems-good make n (New x ∷ is) g r = r.1
  RightItems-good make n (NewIn x s ∷ is) g r = r.1
  RightItems-good make n (Given a ∷ is) g r = r.1

  pub goal_good : (make : List Item → Tree → Tree) (n : ℕ) (is : List Item) (g : Tree) → ((g : Tree) → make [] g ≡ g) → RightItems rank table make n is g → Good (level_items rank table n is) g
  goal_good make n [] g e r = subst (Good n) (e g) r
  goal_good make n (New x ∷ is) g e r = goal_good make (suc (rank x)) is g e r.2
  goal_good make n (NewIn x s ∷ is) g e r = goal_good make (suc (rank x)) is g e r.3
  goal_good make n (Given a ∷ is) g e r = goal_good make n is g e r.2

  pub member_good : (n : ℕ) (x : Sym) (s : Tree) → IsNew rank table n x → Good n s → Good (suc (rank x)) (in_ (name x) s)
  member_good n x s h q =
      record { closed = (tt, (q.closed, tt)); below = ((omega arith, tt), (Below-more rank n (suc (rank x)) s (past n (rank x) h.above) q.below, tt)) }
    where
      past : (n k : ℕ) → n ≤ k → n ≤ suc k
      past n k h = omega arith

  pub up : (n : ℕ) (x : Sym) → IsNew rank table n x → n ≤ suc (rank x)
  up n x h = let a : n ≤ rank x = h.above in omega arith

  pub full_name : (n : ℕ) (x : Sym) → IsNew rank table n x → whole table (name x) ≡ name x
  full_name n x h = ap (λ (o : Option Tree). apply_body o x end) (undefined-none table x h.undefined)

  -- the variable of a binder is again the new symbol
  pub inst_new : (n : ℕ) (x : Sym) (r : Tree) → IsNew rank table n x → IsClosed r → inst (whole table (abstract x r)) (name x) ≡ whole table r
  inst_new n x r h c =
      ap (inst (whole table (abstract x r))) (sym (full_name n x h))
      ∙ sym (sub-inst (expansion table) (abstract x r) (name x))
      ∙ ap (whole table) (inst-abstract x r c)

  module _ (expands : ExpandsAll (expansion table) table) (falling : IsFalling rank (expansion table)) where
    pub full_good : (n : ℕ) (e : Tree) → Good n e → Good n (whole table e)
    full_good n e h = Good-full table may rank expands falling n e h

    close_all : (n : ℕ) (x : Sym) (r : Tree) (g : List Tree) (k : List Entry) → IsNew rank table n x → IsClosed r → Good n (all_ (abstract x r)) → Keeps n g k → Der g (whole table r ∷ []) → Der g (whole table (all_ (abstract x r)) ∷ [])
    close_all n x r g k h cr q w d =
        let f = full_good n (all_ (abstract x r)) q in
        new_all rank n x g (whole table (abstract x r)) h.above w.below f.below.1 f.closed
        (subst (λ (y : Tree). Der g (y ∷ [])) (sym (inst_new n x r h cr)) d)

    close_ex : (n : ℕ) (x : Sym) (r : Tree) (g : List Tree) (k : List Entry) (y : Tree) → IsNew rank table n x → IsClosed r → Good n (ex_ (abstract x r)) → Keeps n g k → IsBelow rank n y → Der (whole table r ∷ g) (y ∷ []) → Der (whole table (ex_ (abstract x r)) ∷ g) (y ∷ [])
    close_ex n x r g k y h cr q w by d =
        let f = full_good n (ex_ (abstract x r)) q in
        new_ex rank n x g (whole table (abstract x r)) y h.above w.below f.below.1 by f.closed
        (subst (λ (z : Tree). Der (z ∷ g) (y ∷ [])) (sym (inst_new n x r h cr)) d)

    -- the fact of a statement, from its goal under its items
    pub general : (l : Option ℕ) (is : List Item) (n : ℕ) (goal : Tree) (c : Context) → RightItems rank table fact_of n is goal → Proves (level_items rank table n is) (with_goal (with_items l is c) goal) → (g : List Tree) → Keeps n g c.known → Der g (whole table (fact_of is goal) ∷ [])
    general l [] n goal c r h g w = h g w (full_good n goal r)
    general l (New x ∷ is) n goal c r h g w =
        close_all n x (fact_of is goal) g c.known r.0 (RightItems-good fact_of (suc (rank x)) is goal r.2).closed r.1 w
        (general l is (suc (rank x)) goal c r.2 h g (Holds-more table may rank n (suc (rank x)) g c.known (up n x r.0) w))
    general l (NewIn x s ∷ is) n goal c r h g w =
        let m : Tree = in_ (name x) s in
        let q = RightItems-good fact_of (suc (rank x)) is goal r.3 in
        close_all n x (imp_ m (fact_of is goal)) g c.known r.0 ((tt, (r.2.closed, tt)), (q.closed, tt)) r.1 w
        (imp_r g (whole table m) (whole table (fact_of is goal))
        (general l is (suc (rank x)) goal (add c (usable l m)) r.3 h (whole table m ∷ g)
        (Holds-add table may rank (suc (rank x)) g c.known (usable l m) (full_good (suc (rank x)) m (member_good n x s r.0 r.2)) (Holds-more table may rank n (suc (rank x)) g c.known (up n x r.0) w))))
    general l (Given a ∷ is) n goal c r h g w =
        imp_r g (whole table a) (whole table (fact_of is goal))
        (general l is n goal (add c (told l a)) r.2 h (whole table a ∷ g) (Holds-add table may rank n g c.known (told l a) (full_good n a r.0) w))

    -- what PICK brings in, used up
    pub picking : (l : Option ℕ) (is : List Item) (n : ℕ) (f : Tree) (c : Context) (y : Tree) → RightItems rank table picked n is f → IsBelow rank n y → ((g : List Tree) → Keeps (level_items rank table n is) g (add (with_items l is c) (told l f)).known → IsBelow rank (level_items rank table n is) y → Der g (y ∷ [])) → (g : List Tree) → Keeps n g c.known → Der (whole table (picked is f) ∷ g) (y ∷ [])
    picking l [] n f c y r by h g w = h (whole table f ∷ g) (Holds-add table may rank n g c.known (told l f) (full_good n f r) w) by
    picking l (New x ∷ is) n f c y r by h g w =
        close_ex n x (picked is f) g c.known y r.0 (RightItems-good picked (suc (rank x)) is f r.2).closed r.1 w by
        (picking l is (suc (rank x)) f c y r.2 (Below-more rank n (suc (rank x)) y (up n x r.0) by) h g (Holds-more table may rank n (suc (rank x)) g c.known (up n x r.0) w))
    picking l (NewIn x s ∷ is) n f c y r by h g w =
        let m : Tree = in_ (name x) s in
        let q = RightItems-good picked (suc (rank x)) is f r.3 in
        close_ex n x (and_ m (picked is f)) g c.known y r.0 ((tt, (r.2.closed, tt)), (q.closed, tt)) r.1 w by
        (and_l g (whole table m) (whole table (picked is f)) y
        (picking l is (suc (rank x)) f (add c (usable l m)) y r.3 (Below-more rank n (suc (rank x)) y (up n x r.0) by) h (whole table m ∷ g)
        (Holds-add table may rank (suc (rank x)) g c.known (usable l m) (full_good (suc (rank x)) m (member_good n x s r.0 r.2)) (Holds-more table may rank n (suc (rank x)) g c.known (up n x r.0) w))))
    picking l (Given a ∷ is) n f c y r by h g w =
        and_l g (whole table a) (whole table (picked is f)) y
        (picking l is n f (add c (told l a)) y r.2 by h (whole table a ∷ g) (Holds-add table may rank n g c.known (told l a) (full_good n a r.0) w))

    -- each expression among facts is cut in
    pub cut_plains : (n : ℕ) (k : List Entry) (u : List ℕ) (y : Tree) (fs : List Fact) (g : List Tree) → IsClosed y → RightFacts rank table may n fs → AreProved (plain_leaves table (usable_of k) u fs) → Keeps n g k → ((g1 : List Tree) → HasAll g1 g → Keeps n g1 k → HasAll g1 (map (whole table) (plains fs)) → Der g1 (y ∷ [])) → Der g (y ∷ [])
    cut_plains n k u y [] g cy r p w h = h g (HasAll-itself g) w tt
    cut_plains n k u y (Cited x ∷ fs) g cy r p w h = cut_plains n k u y fs g cy r.1 p w h
    cut_plains n k u y (Plain pl e ∷ fs) g cy r p w h =
        cut_in g (whole table e) y cy
        (from_leaf table may rank expands falling pl (usable_of k) e u g p.0 w.closed (usable_covered table may g k w.covers))
        (cut_plains n k u y fs (whole table e ∷ g) cy r.1 p.1 (Holds-cons table may rank n g k (whole table e) (full_good n e r.0) w)
        (λ g1 a w1 b. h g1 a.1 w1 (a.0, b)))
