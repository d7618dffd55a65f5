-- The derivations of a proof's leaves, joined.
use Rattle.std.specs.Prelude.{◌≡◌, ℕ, suc, ◌≤◌, Bool, true, false, Option, Some, None, List, [], ◌∷◌, ◌++◌, map}
use Rattle.std.proofs.Common.{refl, ap, sym, ◌∙◌, arith, subst, inl}
use Rattle.core_expr.specs.declared.head.Sym.{Sym}
use Rattle.core_expr.specs.Tree.{Tree, and_, imp_, all_, ex_, in_}
use Rattle.core_expr.specs.Tree.Tree.{bound}
use Rattle.core_expr.specs.Tree.Parts.{end, part}
use Rattle.core_expr.specs.Put.{inst}
use Rattle.core_expr.proofs.Laws.{sub-inst, IsScoped-put}
use Rattle.seq_calculus.specs.Calculus.{HasAll, IsClosed, Der}
use Rattle.tla_ast.specs.declared.place.Place.{Place}
use Rattle.obligation.specs.declared.obligation.Definition.{Definition}
use Rattle.proof_contexts.specs.declared.leaf.Leaf.{Leaf}
use Rattle.proof_contexts.specs.declared.leaf.LeafKind.TheVariants as kind
use Rattle.proof_contexts.specs.Expansion.{chosen, name, IsBelow}
use Rattle.proof_contexts.specs.Steps.{Item, Fact, Proof, Steps, Step}
use Rattle.proof_contexts.specs.Steps.Item.{New, NewIn, Given}
use Rattle.proof_contexts.specs.Steps.Proof.{Missing, Omitted, Obvious, By, Stepped}
use Rattle.proof_contexts.specs.Steps.Steps.{Qed, Next}
use Rattle.proof_contexts.specs.Steps.Step.{Assert, Case, Suffices, Have, Take, TakeIn, Witness, WitnessIn, Pick, Define, Use, Hide}
use Rattle.proof_contexts.specs.Contexts.{Context, Pair, told, usable, add, with_goal, with_items, fact_of, picked, as_all, as_ex, as_imp, given, usable_of, cited_of, all_in, ex_in, top, inside, after, unfolded_by}
use Rattle.proof_contexts.specs.Leaves.{a_leaf, leaf, plain_leaves, main_leaf, own_leaves, leaves, step_leaves, sub_leaves, IsProved, AreProved}
use Rattle.proof_contexts.specs.Right.{IsNew, level_items, RightFacts, level_after, RightProof, RightSteps, RightStep}
use Rattle.proof_contexts.proofs.Rules.{HasAll-one, by_ax}
use Rattle.proof_contexts.proofs.Putting.{expansion, whole, ExpandsAll, chosen-expands, IsFalling, sub-unfolded, sub-head, Below-more, Below-put}
use Rattle.proof_contexts.proofs.Joins.{cut_in, widen, imp_r, imp_l, and_r, ex_r, new_all}
use Rattle.proof_contexts.proofs.Covering.{HasAll-both, plains, Covers-hidden, usable_covered, cited_covered, use_covered, Good-more, Holds-more, Holds-cons, Holds-add, from_leaf}
use Rattle.proof_contexts.proofs.StepLaws.{as_all-is, as_ex-is, as_imp-is, all_in-is, ex_in-is, inst_member, Good, Keeps, Proves, RightItems-good, member_good, up, full_name, full_good, general, picking, cut_plains}

abbrev pub OnAfter : Option Context → (Context → Type 0) → Type 0
OnAfter None P = ⊥
OnAfter (Some d) P = P d

AreProved-left : (xs ys : List Leaf) → AreProved (xs ++ ys) → AreProved xs
AreProved-left [] ys h = tt
AreProved-left (x ∷ xs) ys h = (h.0, AreProved-left xs ys h.1)

AreProved-right : (xs ys : List Leaf) → AreProved (xs ++ ys) → AreProved ys
AreProved-right [] ys h = h
AreProved-right (x ∷ xs) ys h = AreProved-right xs ys h.1

module _ (rank : Sym → ℕ) (table : List Definition) (may : ℕ → Bool) (expands : ExpandsAll (expansion table) table) (falling : IsFalling rank (expansion table)) where
  -- the goal with its head unfolded
  top_full : (c : Context) (e : Tree) → top table c ≡ e → whole table c.goal ≡ whole table e
  top_full c e h = sym (sub-head (expansion table) (chosen c.defs table) c.goal (chosen-expands (expansion table) c.defs table expands)) ∙ ap (whole table) h

  -- sets that are equal once usable definitions are unfolded have one full expansion
  same_full : (c : Context) (s t : Tree) → unfolded_by table c.defs t ≡ unfolded_by table c.defs s → whole table t ≡ whole table s
  same_full c s t e =
      let x = chosen-expands (expansion table) c.defs table expands in
      sym (sub-unfolded (expansion table) (chosen c.defs table) t x) ∙ ap (whole table) e ∙ sub-unfolded (expansion table) (chosen c.defs table) s x

  inst_good : (n : ℕ) (p t : Tree) → IsBelow rank n p → Good rank table may n t → Good rank table may n (inst p t)
  inst_good n p t hp ht = record { closed = IsScoped-put 0 0 0 (part t end) p (omega arith) (ht.closed, tt); below = Below-put rank n 0 (part t end) p (ht.below, tt) hp }

  full_inst : (p t : Tree) → whole table (inst p t) ≡ inst (whole table p) (whole table t)
  full_inst p t = sub-inst (expansion table) p t

  leaf_here : (pl : Place) (n : ℕ) (g : List Tree) (c : Context) (e : Tree) (u : List ℕ) → Keeps rank table may n g c.known → IsProved (leaf table pl (usable_of c.known) e u).kind → Der g (whole table e ∷ [])
  leaf_here pl n g c e u w p = from_leaf table may rank expands falling pl (usable_of c.known) e u g p w.closed (usable_covered table may g c.known w.covers)

  have_step : (pl : Place) (n : ℕ) (l : Option ℕ) (f : Tree) (c : Context) → Good rank table may n f → (o : Option Pair) → as_imp (top table c) ≡ o → AreProved (given o [] (λ q. leaf table pl (usable_of c.known) (imp_ q.first f) c.defs ∷ [])) → OnAfter (given o None (λ q. Some (with_goal (add c (told l f)) q.second))) (Proves rank table may n) → Proves rank table may n c
  have_step pl n l f c r None is p h g w q = absurd h
  have_step pl n l f c r (Some pr) is p h g w q =
      let e : whole table c.goal ≡ imp_ (whole table pr.first) (whole table pr.second) = top_full c (imp_ pr.first pr.second) (as_imp-is (top table c) pr is) in
      let q1 : Good rank table may n (imp_ (whole table pr.first) (whole table pr.second)) = subst (Good rank table may n) e q in
      let a : Tree = whole table pr.first in
      let b : Tree = whole table pr.second in
      let ga : Good rank table may n a = record { closed = q1.closed.0; below = q1.below.0 } in
      let gb : Good rank table may n b = record { closed = q1.closed.1.0; below = q1.below.1.0 } in
      let d : Der g (imp_ a (whole table f) ∷ []) = leaf_here pl n g c (imp_ pr.first f) c.defs w p.0 in
      let w1 = Holds-cons table may rank n g c.known a ga w in
      let w2 = Holds-add table may rank n (a ∷ g) c.known (told l f) (full_good rank table may expands falling n f r) w1 in
      let d2 : Der (whole table f ∷ a ∷ g) (b ∷ []) = h (whole table f ∷ a ∷ g) w2 gb in
      subst (λ (x : Tree). Der g (x ∷ [])) (sym e)
      (imp_r g a b
      (imp_l (a ∷ g) a (whole table f) b gb.closed
      (widen (a ∷ g) g (imp_ a (whole table f)) w1.closed (HasAll-one a g) d)
      (by_ax (a ∷ g) (a ∷ []) a w1.closed (ga.closed, tt) (inl refl) (inl refl))
      d2))

  take_step : (n : ℕ) (x : Sym) (c : Context) → IsNew rank table n x → (o : Option Tree) → as_all (top table c) ≡ o → OnAfter (given o None (λ p. Some (with_goal c (inst p (name x))))) (Proves rank table may (suc (rank x))) → Proves rank table may n c
  take_step n x c r None is h g w q = absurd h
  take_step n x c r (Some p) is h g w q =
      let e : whole table c.goal ≡ all_ (whole table p) = top_full c (all_ p) (as_all-is (top table c) p is) in
      let q1 : Good rank table may n (all_ (whole table p)) = subst (Good rank table may n) e q in
      let i : whole table (inst p (name x)) ≡ inst (whole table p) (name x) = full_inst p (name x) ∙ ap (inst (whole table p)) (full_name rank table may n x r) in
      let gx : Good rank table may (suc (rank x)) (name x) = record { closed = tt; below = (omega arith, tt) } in
      let gi = inst_good (suc (rank x)) (whole table p) (name x) (Below-more rank n (suc (rank x)) (whole table p) (up rank table may n x r) q1.below.1) gx in
      let d = h g (Holds-more table may rank n (suc (rank x)) g c.known (up rank table may n x r) w) (subst (Good rank table may (suc (rank x))) (sym i) gi) in
      subst (λ (y : Tree). Der g (y ∷ [])) (sym e)
      (new_all rank n x g (whole table p) r.above w.below q1.below.1 q1.closed (subst (λ (y : Tree). Der g (y ∷ [])) i d))

  take_in_step : (n : ℕ) (l : Option ℕ) (x : Sym) (s : Tree) (c : Context) → IsNew rank table n x → Good rank table may n s → (o : Option Tree) → all_in table c s (top table c) ≡ o → OnAfter (given o None (λ p. Some (with_goal (add c (usable l (in_ (name x) s))) (inst p (name x))))) (Proves rank table may (suc (rank x))) → Proves rank table may n c
  take_in_step n l x s c r gs None is h g w q = absurd h
  take_in_step n l x s c r gs (Some p) is h g w q =
      let b = all_in-is table c s (top table c) p is in
      let t : Tree = b.0 in
      let et : whole table t ≡ whole table s = same_full c s t b.2 in
      let fp : Tree = whole table p in
      let fs : Tree = whole table s in
      let pp : Tree = imp_ (in_ (bound 0) fs) fp in
      let e : whole table c.goal ≡ all_ pp = top_full c (all_ (imp_ (in_ (bound 0) t) p)) b.1 ∙ (λ i. all_ (imp_ (in_ (bound 0) (et i)) fp)) in
      let q1 : Good rank table may n (all_ pp) = subst (Good rank table may n) e q in
      let gfs : Good rank table may n fs = full_good rank table may expands falling n s gs in
      let m : Tree = in_ (name x) s in
      let em : whole table m ≡ in_ (name x) fs = ap (λ (y : Tree). in_ y fs) (full_name rank table may n x r) in
      let i : whole table (inst p (name x)) ≡ inst fp (name x) = full_inst p (name x) ∙ ap (inst fp) (full_name rank table may n x r) in
      let ei : inst pp (name x) ≡ imp_ (whole table m) (whole table (inst p (name x))) = (λ j. imp_ (inst_member fs (name x) gfs.closed j) (inst fp (name x))) ∙ (λ j. imp_ (sym em j) (sym i j)) in
      let gx : Good rank table may (suc (rank x)) (name x) = record { closed = tt; below = (omega arith, tt) } in
      let gi = inst_good (suc (rank x)) fp (name x) (Below-more rank n (suc (rank x)) fp (up rank table may n x r) q1.below.1.1.0) gx in
      let w1 = Holds-add table may rank (suc (rank x)) g c.known (usable l m) (full_good rank table may expands falling (suc (rank x)) m (member_good rank table may n x s r gs)) (Holds-more table may rank n (suc (rank x)) g c.known (up rank table may n x r) w) in
      let d : Der (whole table m ∷ g) (whole table (inst p (name x)) ∷ []) = h (whole table m ∷ g) w1 (subst (Good rank table may (suc (rank x))) (sym i) gi) in
      subst (λ (y : Tree). Der g (y ∷ [])) (sym e)
      (new_all rank n x g pp r.above w.below q1.below.1 q1.closed
      (subst (λ (y : Tree). Der g (y ∷ [])) (sym ei) (imp_r g (whole table m) (whole table (inst p (name x))) d)))

  witness_step : (n : ℕ) (t : Tree) (c : Context) → Good rank table may n t → (o : Option Tree) → as_ex (top table c) ≡ o → OnAfter (given o None (λ p. Some (with_goal c (inst p t)))) (Proves rank table may n) → Proves rank table may n c
  witness_step n t c r None is h g w q = absurd h
  witness_step n t c r (Some p) is h g w q =
      let e : whole table c.goal ≡ ex_ (whole table p) = top_full c (ex_ p) (as_ex-is (top table c) p is) in
      let q1 : Good rank table may n (ex_ (whole table p)) = subst (Good rank table may n) e q in
      let ft = full_good rank table may expands falling n t r in
      let gi = inst_good n (whole table p) (whole table t) q1.below.1 ft in
      let d = h g w (subst (Good rank table may n) (sym (full_inst p t)) gi) in
      subst (λ (y : Tree). Der g (y ∷ [])) (sym e)
      (ex_r g (whole table p) (whole table t) q1.closed ft.closed (subst (λ (y : Tree). Der g (y ∷ [])) (full_inst p t) d))

  witness_in_step : (pl : Place) (n : ℕ) (l : Option ℕ) (t s : Tree) (c : Context) → Good rank table may n t → Good rank table may n s → (o : Option Tree) → ex_in table c s (top table c) ≡ o → AreProved (given o [] (λ p. leaf table pl (usable_of c.known) (in_ t s) c.defs ∷ [])) → OnAfter (given o None (λ p. Some (with_goal (add c (told l (in_ t s))) (inst p t)))) (Proves rank table may n) → Proves rank table may n c
  witness_in_step pl n l t s c r gs None is a h g w q = absurd h
  witness_in_step pl n l t s c r gs (Some p) is a h g w q =
      let b = ex_in-is table c s (top table c) p is in
      let z : Tree = b.0 in
      let ez : whole table z ≡ whole table s = same_full c s z b.2 in
      let fp : Tree = whole table p in
      let fs : Tree = whole table s in
      let f_t : Tree = whole table t in
      let pp : Tree = and_ (in_ (bound 0) fs) fp in
      let e : whole table c.goal ≡ ex_ pp = top_full c (ex_ (and_ (in_ (bound 0) z) p)) b.1 ∙ (λ i. ex_ (and_ (in_ (bound 0) (ez i)) fp)) in
      let q1 : Good rank table may n (ex_ pp) = subst (Good rank table may n) e q in
      let gt = full_good rank table may expands falling n t r in
      let gfs = full_good rank table may expands falling n s gs in
      let m : Tree = in_ t s in
      let gm : Good rank table may n (whole table m) = record { closed = (gt.closed, (gfs.closed, tt)); below = (gt.below, (gfs.below, tt)) } in
      let d0 : Der g (whole table m ∷ []) = leaf_here pl n g c m c.defs w a.0 in
      let gi = inst_good n fp f_t q1.below.1.1.0 gt in
      let d : Der (whole table m ∷ g) (whole table (inst p t) ∷ []) = h (whole table m ∷ g) (Holds-add table may rank n g c.known (told l m) gm w) (subst (Good rank table may n) (sym (full_inst p t)) gi) in
      let d1 : Der g (inst fp f_t ∷ []) = subst (λ (y : Tree). Der g (y ∷ [])) (full_inst p t) (cut_in g (whole table m) (whole table (inst p t)) (subst (Good rank table may n) (sym (full_inst p t)) gi).closed d0 d) in
      let ei : inst pp f_t ≡ and_ (whole table m) (inst fp f_t) = λ j. and_ (inst_member fs f_t gfs.closed j) (inst fp f_t) in
      subst (λ (y : Tree). Der g (y ∷ [])) (sym e)
      (ex_r g pp f_t q1.closed gt.closed
      (subst (λ (y : Tree). Der g (y ∷ [])) (sym ei) (and_r g (whole table m) (inst fp f_t) d0 d1)))

  main_step : (pl : Place) (n : ℕ) (c : Context) (only : Bool) (fs : List Fact) (u : List ℕ) (g : List Tree) → RightFacts rank table may n fs → Keeps rank table may n g c.known → HasAll g (map (whole table) (plains fs)) → IsProved (main_leaf table pl c only fs u).kind → Der g (whole table c.goal ∷ [])
  main_step pl n c true fs u g r w h p = from_leaf table may rank expands falling pl (cited_of c.known fs) c.goal u g p w.closed (cited_covered table may rank g n fs c.known r w.covers h)
  main_step pl n c false fs u g r w h p =
      from_leaf table may rank expands falling pl (usable_of c.known ++ cited_of c.known fs) c.goal (c.defs ++ u) g p w.closed
      (HasAll-both g (whole table) (usable_of c.known) (cited_of c.known fs) (usable_covered table may g c.known w.covers) (cited_covered table may rank g n fs c.known r w.covers h))

  rest_of : (pl : Place) (P : Context → Type 0) (o : Option Context) (leaves_on : Context → List Leaf) → AreProved (given o (a_leaf pl kind.Shape ∷ []) leaves_on) → ((d : Context) → AreProved (leaves_on d) → P d) → OnAfter o P
  rest_of pl P None f h k = h.0
  rest_of pl P (Some d) f h k = k d h

  lower : (n m : ℕ) (c : Context) → n ≤ m → Proves rank table may m c → Proves rank table may n c
  lower n m c e h g w q = h g (Holds-more table may rank n m g c.known e w) (Good-more table may rank n m (whole table c.goal) e q)

  with_items-goal : (l : Option ℕ) (is : List Item) (c : Context) → (with_items l is c).goal ≡ c.goal
  with_items-goal l [] c = refl
  with_items-goal l (New x ∷ is) c = with_items-goal l is c
  with_items-goal l (NewIn x s ∷ is) c = with_items-goal l is (add c (usable l (in_ (name x) s)))
  with_items-goal l (Given a ∷ is) c = with_items-goal l is (add c (told l a))

  -- the goal is the same after PICK
  pick_rest : (n : ℕ) (l : Option ℕ) (is : List Item) (f : Tree) (c : Context) → Proves rank table may n (add (with_items l is c) (told l f)) → (g : List Tree) → Keeps rank table may n g (add (with_items l is c) (told l f)).known → IsClosed (whole table c.goal) → IsBelow rank n (whole table c.goal) → Der g (whole table c.goal ∷ [])
  pick_rest n l is f c h g w cq bq =
      let e = with_items-goal l is c in
      subst (λ (z : Tree). Der g (whole table z ∷ [])) e (h g w (subst (λ (z : Tree). Good rank table may n (whole table z)) (sym e) (record { closed = cq; below = bq })))

  mutual
    prove : (p : Proof) (n : ℕ) (c : Context) → RightProof rank table may p n → AreProved (leaves table p c) → Proves rank table may n c
    prove (Missing pl) n c r h g w q = absurd h.0
    prove (Omitted pl) n c r h g w q = absurd h.0
    prove (Obvious pl) n c r h g w q = leaf_here pl n g c c.goal c.defs w h.0
    prove (By pl only fs u) n c r h g w q =
        cut_plains rank table may expands falling n c.known (c.defs ++ u) (whole table c.goal) fs g q.closed r
        (AreProved-left (plain_leaves table (usable_of c.known) (c.defs ++ u) fs) (main_leaf table pl c only fs u ∷ []) h) w
        (λ g1 a w1 b. main_step pl n c only fs u g1 r w1 b (AreProved-right (plain_leaves table (usable_of c.known) (c.defs ++ u) fs) (main_leaf table pl c only fs u ∷ []) h).0)
    prove (Stepped ss) n c r h g w q = prove_steps ss n c r h g w q

    prove_steps : (ss : Steps) (n : ℕ) (c : Context) → RightSteps rank table may ss n → AreProved (step_leaves table ss c) → Proves rank table may n c
    prove_steps (Qed p) n c r h = lower n r.0 c r.1 (prove p r.0 c r.2 h)
    prove_steps (Next pl s ss) n c r h =
        let first : List Leaf = sub_leaves table s c ++ own_leaves table pl s c in
        let last : List Leaf = given (after table s c) (a_leaf pl kind.Shape ∷ []) (λ d. step_leaves table ss d) in
        let here = AreProved-left first last h in
        lower n r.0 c r.1
        (prove_step pl s r.0 c r.2 (AreProved-left (sub_leaves table s c) (own_leaves table pl s c) here) (AreProved-right (sub_leaves table s c) (own_leaves table pl s c) here)
        (rest_of pl (Proves rank table may (level_after rank table r.0 s)) (after table s c) (λ d. step_leaves table ss d) (AreProved-right first last h)
        (λ d k. prove_steps ss (level_after rank table r.0 s) d r.3 k)))

    prove_step : (pl : Place) (s : Step) (n : ℕ) (c : Context) → RightStep rank table may s n → AreProved (sub_leaves table s c) → AreProved (own_leaves table pl s c) → OnAfter (after table s c) (Proves rank table may (level_after rank table n s)) → Proves rank table may n c
    prove_step pl (Assert l s p) n c r hs ho h g w q =
        let f : Tree = fact_of s.items s.goal in
        let gf = full_good rank table may expands falling n f (RightItems-good rank table may fact_of n s.items s.goal r.0) in
        let d = general rank table may expands falling l s.items n s.goal c r.0 (lower (level_items rank table n s.items) r.1.0 (inside table (Assert l s p) c) r.1.1 (prove p r.1.0 (inside table (Assert l s p) c) r.1.2 hs)) g w in
        cut_in g (whole table f) (whole table c.goal) q.closed d
        (h (whole table f ∷ g) (Holds-add table may rank n g c.known (told l f) gf w) q)
    prove_step pl (Case l f p) n c r hs ho h g w q =
        let gf = full_good rank table may expands falling n f r.0 in
        let fg : Tree = whole table c.goal in
        let gi : Good rank table may n (imp_ (whole table f) fg) = record { closed = (gf.closed, (q.closed, tt)); below = (gf.below, (q.below, tt)) } in
        let d = lower n r.1.0 (add c (told l f)) r.1.1 (prove p r.1.0 (add c (told l f)) r.1.2 hs) (whole table f ∷ g) (Holds-add table may rank n g c.known (told l f) gf w) q in
        cut_in g (imp_ (whole table f) fg) fg q.closed (imp_r g (whole table f) fg d)
        (h (imp_ (whole table f) fg ∷ g) (Holds-add table may rank n g c.known (told l (imp_ f c.goal)) gi w) q)
    prove_step pl (Suffices l s p) n c r hs ho h g w q =
        let f : Tree = fact_of s.items s.goal in
        let gf = full_good rank table may expands falling n f (RightItems-good rank table may fact_of n s.items s.goal r.0) in
        let d = lower n r.1.0 (add c (usable l f)) r.1.1 (prove p r.1.0 (add c (usable l f)) r.1.2 hs) (whole table f ∷ g) (Holds-add table may rank n g c.known (usable l f) gf w) q in
        cut_in g (whole table f) (whole table c.goal) q.closed (general rank table may expands falling l s.items n s.goal c r.0 h g w) d
    prove_step pl (Have l f) n c r hs ho h g w q = have_step pl n l f c r (as_imp (top table c)) refl ho h g w q
    prove_step pl (Take x) n c r hs ho h g w q = take_step n x c r (as_all (top table c)) refl h g w q
    prove_step pl (TakeIn l x s) n c r hs ho h g w q = take_in_step n l x s c r.0 r.1 (all_in table c s (top table c)) refl h g w q
    prove_step pl (Witness t) n c r hs ho h g w q = witness_step n t c r (as_ex (top table c)) refl h g w q
    prove_step pl (WitnessIn l t s) n c r hs ho h g w q = witness_in_step pl n l t s c r.0 r.1 (ex_in table c s (top table c)) refl ho h g w q
    prove_step pl (Pick l is f p) n c r hs ho h g w q =
        let y : Tree = whole table c.goal in
        let x : Tree = picked is f in
        let gx = full_good rank table may expands falling n x (RightItems-good rank table may picked n is f r.0) in
        let d = lower n r.1.0 (with_goal c x) r.1.1 (prove p r.1.0 (with_goal c x) r.1.2 hs) g w gx in
        cut_in g (whole table x) y q.closed d
        (picking rank table may expands falling l is n f c y r.0 q.below (λ g1 w1 b. pick_rest (level_items rank table n is) l is f c h g1 w1 q.closed b) g w)
    prove_step pl (Define u) n c r hs ho h g w q = h g w q
    prove_step pl (Use l fs u) n c r hs ho h g w q =
        cut_plains rank table may expands falling n c.known (c.defs ++ u) (whole table c.goal) fs g q.closed r ho w
        (λ g1 a w1 b. h g1 (record { closed = w1.closed; below = w1.below; covers = use_covered table may rank g1 n l fs c.known r w1.covers b }) q)
    prove_step pl (Hide xs u) n c r hs ho h g w q = h g (record { closed = w.closed; below = w.below; covers = Covers-hidden table may g xs c.known w.covers }) q

  -- of a proof at a raised level
  pub raised : (p : Proof) (n : ℕ) (c : Context) → (m : ℕ) × (n ≤ m) × RightProof rank table may p m → AreProved (leaves table p c) → Proves rank table may n c
  raised p n c r h = lower n r.0 c r.1 (prove p r.0 c r.2 h)
