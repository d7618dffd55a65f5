-- What is in scope is right.
use Rattle.std.specs.Prelude.{◌≡◌, ℕ, suc, ◌<◌, ◌≤◌, Bool, true, false, cond, List, [], ◌∷◌}
use Rattle.std.proofs.Common.{refl, ap, sym, ◌∙◌, arith, subst, inl, inr}
use Rattle.core_expr.specs.declared.head.Sym.{Sym}
use Rattle.core_expr.specs.Tree.{Tree, Parts, size, imp_, and_, in_}
use Rattle.core_expr.specs.Tree.Tree.{bound, app, node, bind}
use Rattle.core_expr.specs.Tree.Parts.{end, part}
use Rattle.core_expr.specs.Put.{IsScoped, AreScoped}
use Rattle.core_expr.specs.Terms.{same_sym}
use Rattle.seq_calculus.specs.Calculus.{IsClosed}
use Rattle.obligation.specs.declared.obligation.Definition.{Definition}
use Rattle.prime_expand.specs.Laws.{Only, AllOnly, Holds}
use Rattle.proof_contexts.specs.Expansion.{abstract_at, abstracts_at, name, IsBelow, AreBelow}
use Rattle.proof_contexts.specs.Steps.{Item}
use Rattle.proof_contexts.specs.Steps.Item.{New, NewIn, Given}
use Rattle.proof_contexts.specs.Contexts.{fact_of, picked}
use Rattle.proof_contexts.specs.Right.{IsGood, RightItems}
use Rattle.core_expr.proofs.Equal.{sym-refl}
use Rattle.proof_assembly.specs.Scopes.{InScope, With, AreOver, AreNew}
use Rattle.proof_assembly.specs.Laws.{InScopeIsRight}

size-abstracts : (x : Sym) (d : ℕ) (ps : Parts) → size (abstracts_at x d ps) ≡ size ps
size-abstracts x d end = refl
size-abstracts x d (part e ps) = ap suc (size-abstracts x d ps)

module _ (P : InScope) (x : Sym) where
  only_name : (f : Sym) (d : ℕ) (b : Bool) → same_sym x f ≡ b → With P x f 0 → Only P (cond b (bound d) (app f end))
  only_name f d true e h = tt
  only_name f d false e (inl h) = (h, tt)
  only_name f d false e (inr h) = absurd (no (same_sym x f) e (ap (same_sym x) h.0 ∙ sym-refl x))
    where
      no : (b : Bool) → b ≡ false → b ≡ true → ⊥
      no b p q = cc

  old : (f : Sym) (k : ℕ) → With P x f (suc k) → P f (suc k)
  old f k (inl h) = h
  old f k (inr h) = absurd (no k h.1)
    where
      no : (k : ℕ) → suc k ≡ 0 → ⊥
      no k h = omega arith

  mutual
    pub Only-abstract : (d : ℕ) (e : Tree) → Only (With P x) e → Only P (abstract_at x d e)
    Only-abstract d (bound i) h = tt
    Only-abstract d (app f end) h = only_name f d (same_sym x f) refl h.0
    Only-abstract d (app f (part e ps)) h =
        (subst (λ (k : ℕ). P f (suc k)) (sym (size-abstracts x d ps)) (old f (size ps) h.0), (Only-abstract d e h.1.0, AllOnly-abstracts d ps h.1.1))
    Only-abstract d (node k ns ps) h = AllOnly-abstracts d ps h
    Only-abstract d (bind b ps e) h = (AllOnly-abstracts d ps h.0, Only-abstract (suc d) e h.1)

    AllOnly-abstracts : (d : ℕ) (ps : Parts) → AllOnly (With P x) ps → AllOnly P (abstracts_at x d ps)
    AllOnly-abstracts d end h = tt
    AllOnly-abstracts d (part e ps) h = (Only-abstract d e h.0, AllOnly-abstracts d ps h.1)

mutual
  pub Only-more : (P Q : InScope) (e : Tree) → ((f : Sym) (k : ℕ) → P f k → Q f k) → Only P e → Only Q e
  Only-more P Q (bound i) i1 h = tt
  Only-more P Q (app f ps) i1 h = (i1 f (size ps) h.0, AllOnly-more P Q ps i1 h.1)
  Only-more P Q (node k ns ps) i1 h = AllOnly-more P Q ps i1 h
  Only-more P Q (bind b ps e) i1 h = (AllOnly-more P Q ps i1 h.0, Only-more P Q e i1 h.1)

  AllOnly-more : (P Q : InScope) (ps : Parts) → ((f : Sym) (k : ℕ) → P f k → Q f k) → AllOnly P ps → AllOnly Q ps
  AllOnly-more P Q end i1 h = tt
  AllOnly-more P Q (part e ps) i1 h = (Only-more P Q e i1 h.0, AllOnly-more P Q ps i1 h.1)

scoped_name : (x f : Sym) (d : ℕ) (b : Bool) → IsScoped (suc d) (cond b (bound d) (app f end))
scoped_name x f d true = omega arith
scoped_name x f d false = tt

mutual
  pub IsScoped-abstract : (x : Sym) (d : ℕ) (e : Tree) → IsScoped d e → IsScoped (suc d) (abstract_at x d e)
  IsScoped-abstract x d (bound i) h = more i d h
    where
      more : (i d : ℕ) → i < d → i < suc d
      more i d h = omega arith
  IsScoped-abstract x d (app f end) h = scoped_name x f d (same_sym x f)
  IsScoped-abstract x d (app f (part e ps)) h = (IsScoped-abstract x d e h.0, AreScoped-abstracts x d ps h.1)
  IsScoped-abstract x d (node k ns ps) h = AreScoped-abstracts x d ps h
  IsScoped-abstract x d (bind b ps e) h = (AreScoped-abstracts x d ps h.0, IsScoped-abstract x (suc d) e h.1)

  AreScoped-abstracts : (x : Sym) (d : ℕ) (ps : Parts) → AreScoped d ps → AreScoped (suc d) (abstracts_at x d ps)
  AreScoped-abstracts x d end h = tt
  AreScoped-abstracts x d (part e ps) h = (IsScoped-abstract x d e h.0, AreScoped-abstracts x d ps h.1)

fact_scope : (P : InScope) (is : List Item) (g : Tree) → AreOver P is g → Only P (fact_of is g) × IsClosed (fact_of is g)
fact_scope P [] g h = h
fact_scope P (New x ∷ is) g h =
    let w = fact_scope (With P x) is g h in
    ((tt, Only-abstract P x 0 (fact_of is g) w.0), (tt, IsScoped-abstract x 0 (fact_of is g) w.1))
fact_scope P (NewIn x s ∷ is) g h =
    let w = fact_scope (With P x) is g h.1 in
    let e : Tree = imp_ (in_ (name x) s) (fact_of is g) in
    let o : Only (With P x) e = (((inr (refl, refl), tt), (Only-more P (With P x) s (λ f k p. inl p) h.0.0, tt)), (w.0, tt)) in
    ((tt, Only-abstract P x 0 e o), (tt, IsScoped-abstract x 0 e ((tt, (h.0.1, tt)), (w.1, tt))))
fact_scope P (Given a ∷ is) g h =
    let w = fact_scope P is g h.1 in
    ((h.0.0, (w.0, tt)), (h.0.1, (w.1, tt)))

picked_scope : (P : InScope) (is : List Item) (g : Tree) → AreOver P is g → Only P (picked is g) × IsClosed (picked is g)
picked_scope P [] g h = h
picked_scope P (New x ∷ is) g h =
    let w = picked_scope (With P x) is g h in
    ((tt, Only-abstract P x 0 (picked is g) w.0), (tt, IsScoped-abstract x 0 (picked is g) w.1))
picked_scope P (NewIn x s ∷ is) g h =
    let w = picked_scope (With P x) is g h.1 in
    let e : Tree = and_ (in_ (name x) s) (picked is g) in
    let o : Only (With P x) e = (((inr (refl, refl), tt), (Only-more P (With P x) s (λ f k p. inl p) h.0.0, tt)), (w.0, tt)) in
    ((tt, Only-abstract P x 0 e o), (tt, IsScoped-abstract x 0 e ((tt, (h.0.1, tt)), (w.1, tt))))
picked_scope P (Given a ∷ is) g h =
    let w = picked_scope P is g h.1 in
    ((h.0.0, (w.0, tt)), (h.0.1, (w.1, tt)))

module _ (rank : Sym → ℕ) (table : List Definition) where
  mutual
    pub Only-below : (P : InScope) (n : ℕ) (e : Tree) → ((f : Sym) (k : ℕ) → P f k → rank f < n) → Only P e → IsBelow rank n e
    Only-below P n (bound i) i1 h = tt
    Only-below P n (app f ps) i1 h = (i1 f (size ps) h.0, AllOnly-below P n ps i1 h.1)
    Only-below P n (node k ns ps) i1 h = AllOnly-below P n ps i1 h
    Only-below P n (bind b ps e) i1 h = (AllOnly-below P n ps i1 h.0, Only-below P n e i1 h.1)

    AllOnly-below : (P : InScope) (n : ℕ) (ps : Parts) → ((f : Sym) (k : ℕ) → P f k → rank f < n) → AllOnly P ps → AreBelow rank n ps
    AllOnly-below P n end i1 h = tt
    AllOnly-below P n (part e ps) i1 h = (Only-below P n e i1 h.0, AllOnly-below P n ps i1 h.1)

  pub with_below : (P : InScope) (n : ℕ) (x : Sym) → n ≤ rank x → ((f : Sym) (k : ℕ) → P f k → rank f < n) → (f : Sym) (k : ℕ) → With P x f k → rank f < suc (rank x)
  with_below P n x q i1 f k (inl p) = past (rank f) n (rank x) (i1 f k p) q
    where
      past : (a b c : ℕ) → a < b → b ≤ c → a < suc c
      past a b c h k = omega arith
  with_below P n x q i1 f k (inr h) =
      let e : rank f ≡ rank x = ap rank h.0 in
      omega arith

  good : (P : InScope) (n : ℕ) (e : Tree) → ((f : Sym) (k : ℕ) → P f k → rank f < n) → Only P e → IsClosed e → IsGood rank table n e
  good P n e i1 h c = record { closed = c; below = Only-below P n e i1 h }

  -- the items of a statement
  pub right_fact : (P : InScope) (n : ℕ) (is : List Item) (g : Tree) → ((f : Sym) (k : ℕ) → P f k → rank f < n) → AreNew rank table n is → AreOver P is g → RightItems rank table fact_of n is g
  right_fact P n [] g i1 w h = good P n g i1 h.0 h.1
  right_fact P n (New x ∷ is) g i1 w h =
      let s = fact_scope P (New x ∷ is) g h in
      (w.0, good P n (fact_of (New x ∷ is) g) i1 s.0 s.1, right_fact (With P x) (suc (rank x)) is g (with_below P n x w.0.above i1) w.1 h)
  right_fact P n (NewIn x d ∷ is) g i1 w h =
      let s = fact_scope P (NewIn x d ∷ is) g h in
      (w.0, good P n (fact_of (NewIn x d ∷ is) g) i1 s.0 s.1, good P n d i1 h.0.0 h.0.1, right_fact (With P x) (suc (rank x)) is g (with_below P n x w.0.above i1) w.1 h.1)
  right_fact P n (Given a ∷ is) g i1 w h =
      let s = fact_scope P (Given a ∷ is) g h in
      (good P n a i1 h.0.0 h.0.1, good P n (fact_of (Given a ∷ is) g) i1 s.0 s.1, right_fact P n is g i1 w h.1)

  -- the names of PICK
  pub right_picked : (P : InScope) (n : ℕ) (is : List Item) (g : Tree) → ((f : Sym) (k : ℕ) → P f k → rank f < n) → AreNew rank table n is → AreOver P is g → RightItems rank table picked n is g
  right_picked P n [] g i1 w h = good P n g i1 h.0 h.1
  right_picked P n (New x ∷ is) g i1 w h =
      let s = picked_scope P (New x ∷ is) g h in
      (w.0, good P n (picked (New x ∷ is) g) i1 s.0 s.1, right_picked (With P x) (suc (rank x)) is g (with_below P n x w.0.above i1) w.1 h)
  right_picked P n (NewIn x d ∷ is) g i1 w h =
      let s = picked_scope P (NewIn x d ∷ is) g h in
      (w.0, good P n (picked (NewIn x d ∷ is) g) i1 s.0 s.1, good P n d i1 h.0.0 h.0.1, right_picked (With P x) (suc (rank x)) is g (with_below P n x w.0.above i1) w.1 h.1)
  right_picked P n (Given a ∷ is) g i1 w h =
      let s = picked_scope P (Given a ∷ is) g h in
      (good P n a i1 h.0.0 h.0.1, good P n (picked (Given a ∷ is) g) i1 s.0 s.1, right_picked P n is g i1 w h.1)

pub in_scope_right : InScopeIsRight
in_scope_right rank table known n is g below new over = (right_fact rank table (Holds known) n is g below new over, right_picked rank table (Holds known) n is g below new over)
