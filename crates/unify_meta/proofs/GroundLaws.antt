-- One term for each metavariable.
use Rattle.std.proofs.Common.{◌≡◌, ℕ, ◌+◌, ◌<◌, ◌≤◌, Bool, true, false, cond, Option, Some, None, List, [], ◌∷◌, ◌++◌, length, get_or, take, refl, ap, sym, ◌∙◌, arith, subst, inl, inr, Result, Ok, Err}
use Rattle.std.specs.Prelude.{◌⊎◌, IfOk}
use Rattle.std.specs.Ordering.{nat_cmp}
use Rattle.std.specs.BTreeMap.{is_at}
use Rattle.std.proofs.lemmas.List.{take_more, take_all}
use Rattle.core_expr.specs.declared.head.Sym.{Sym}
use Rattle.core_expr.specs.Tree.{Tree, Parts}
use Rattle.core_expr.specs.Tree.Tree.{bound, app, node, bind}
use Rattle.core_expr.specs.Tree.Parts.{end, part}
use Rattle.core_expr.specs.Nodes.{canon_sym}
use Rattle.core_expr.specs.Terms.{same_sym}
use Rattle.core_expr.proofs.Equal.{sym-same, sym-refl}
use Rattle.unifier_definition.specs.Metas.{listed, meta_of, assign, assigns}
use Rattle.unifier_definition.proofs.Substituted.{either}
use Rattle.term_bank.specs.Banks.{IsDistinct, Extends, HasTree, tree_at}
use Rattle.term_bank.specs.Images.{In, found}
use Rattle.term_bank.proofs.MarkLaws.{In-parts, In-append-left, In-append-right}
use Rattle.term_bank.proofs.InstLaws.{longer, same_tree}
use Rattle.term_walks.specs.Moved.{or_self, moved, moved_parts}
use Rattle.term_walks.specs.Walks.{given, tree_for, AreWithin}
use Rattle.term_walks.proofs.NodeLaws.{HasTree-more}
use Rattle.term_walks.proofs.MoveLaws.{at_key, at_itself, KeysWithin, given-at, given-key}
use Rattle.unify_meta.specs.Metas.{symbols}
use Rattle.unify_meta.specs.Grounds.{IsMetaNode, HasGround, AreGround}

-- what a substitution gives for a metavariable
abbrev pub value_of : (Sym → Tree) → Option Sym → Option Tree
value_of v None = None
value_of v (Some f) = Some (v f)

-- putting in for the metavariables alone is assigning
module _ (r : Tree → Option Tree) (ms : List Sym) (v : Sym → Tree) (told : (x : Tree) → r x ≡ value_of v (meta_of ms x)) where
  leaf : (f : Sym) (b : Bool) → or_self (value_of v (either b (Some f) None)) (app f end) ≡ either b (v f) (app f end)
  leaf f true = refl
  leaf f false = refl

  mutual
    pub moved-assign : (e : Tree) → moved r e ≡ assign ms v e
    moved-assign (bound i) = ap (λ o. or_self o (bound i)) (told (bound i))
    moved-assign (app f end) = ap (λ o. or_self o (app f end)) (told (app f end)) ∙ leaf f (listed ms f)
    moved-assign (app f (part e ps)) =
        ap (λ o. or_self o (app f (moved_parts r (part e ps)))) (told (app f (part e ps))) ∙ (λ i. app f (part (moved-assign e i) (moved-assigns ps i)))
    moved-assign (node h ns ps) = ap (λ o. or_self o (node h ns (moved_parts r ps))) (told (node h ns ps)) ∙ ap (node h ns) (moved-assigns ps)
    moved-assign (bind b ps e) = ap (λ o. or_self o (bind b (moved_parts r ps) (moved r e))) (told (bind b ps e)) ∙ (λ i. bind b (moved-assigns ps i) (moved-assign e i))

    pub moved-assigns : (ps : Parts) → moved_parts r ps ≡ assigns ms v ps
    moved-assigns end = refl
    moved-assigns (part e ps) = λ i. part (moved-assign e i) (moved-assigns ps i)

-- listed symbols
listed-In : (ns : List ℕ) (f : Sym) → listed (symbols ns) f ≡ true → (n : ℕ) × In n ns × (f ≡ canon_sym n 0)
listed-In [] f h = cc
listed-In (n ∷ ns) f h = go (same_sym (canon_sym n 0) f) refl h (listed-In ns f)
  where
    go : (b : Bool) → same_sym (canon_sym n 0) f ≡ b → either b true (listed (symbols ns) f) ≡ true → (listed (symbols ns) f ≡ true → (m : ℕ) × In m ns × (f ≡ canon_sym m 0)) → (m : ℕ) × In m (n ∷ ns) × (f ≡ canon_sym m 0)
    go true e h rec = (n, inl refl, sym (sym-same (canon_sym n 0) f e))
    go false e h rec = let r = rec h in (r.0, inr r.1, r.2)

In-listed : (ns : List ℕ) (n : ℕ) → In n ns → listed (symbols ns) (canon_sym n 0) ≡ true
In-listed [] n h = absurd h
In-listed (m ∷ ns) n (inl e) =
    ap (λ b. either b true (listed (symbols ns) (canon_sym n 0))) (ap (λ x. same_sym (canon_sym x 0) (canon_sym n 0)) (sym e) ∙ sym-refl (canon_sym n 0))
In-listed (m ∷ ns) n (inr h) = later (same_sym (canon_sym m 0) (canon_sym n 0)) (listed (symbols ns) (canon_sym n 0)) (In-listed ns n h)
  where
    later : (b c : Bool) → c ≡ true → either b true c ≡ true
    later true c e = refl
    later false c e = e

-- a listed metavariable, or another term
meta_cases : (ms : List Sym) (x : Tree) → ((f : Sym) × (meta_of ms x ≡ Some f) × (listed ms f ≡ true) × (x ≡ app f end)) ⊎ (meta_of ms x ≡ None)
meta_cases ms (bound i) = inr refl
meta_cases ms (app f end) = go (listed ms f) refl
  where
    go : (b : Bool) → listed ms f ≡ b → ((g : Sym) × (either b (Some f) None ≡ Some g) × (listed ms g ≡ true) × (app f end ≡ app g end)) ⊎ (either b (Some f) None ≡ None)
    go true e = inl (f, refl, e, refl)
    go false e = inr refl
meta_cases ms (app f (part e ps)) = inr refl
meta_cases ms (node h ns ps) = inr refl
meta_cases ms (bind b ps e) = inr refl

-- the images give the spare term for each metavariable, and nothing for other terms
module _ (ts : List Tree) (ns : List ℕ) (spare : ℕ) (images : List (ℕ × ℕ)) (d : IsDistinct ts) (g : AreGround ts ns spare images) where
  keys : KeysWithin (length ts) images
  keys q k f = (g.only q k f).1.tree.within

  at : (q : ℕ) → q < length ts → given ts images (tree_at ts q) ≡ tree_for ts (found q images)
  at q l = given-at ts images q d keys l

  pub ground-given : (x : Tree) → given ts images x ≡ value_of (λ f. tree_at ts spare) (meta_of (symbols ns) x)
  ground-given x = go (meta_cases (symbols ns) x)
    where
      some : (f : Sym) → listed (symbols ns) f ≡ true → x ≡ app f end → given ts images x ≡ Some (tree_at ts spare)
      some f l e =
          let n = listed-In ns f l in
          let h = g.all n.0 n.1 in
          ap (given ts images) (e ∙ ap (λ y. app y end) n.2 ∙ sym h.tree.tree) ∙ at h.node h.tree.within ∙ ap (tree_for ts) h.image

      no : (q : ℕ) → q < length ts → tree_at ts q ≡ x → meta_of (symbols ns) x ≡ None → (o : Option ℕ) → found q images ≡ o → tree_for ts o ≡ None
      no q l e z None f = refl
      no q l e z (Some k) f =
          let m = (g.only q k f).1 in
          let a : meta_of (symbols ns) (app (canon_sym m.name 0) end) ≡ Some (canon_sym m.name 0) = ap (λ b. either b (Some (canon_sym m.name 0)) None) (In-listed ns m.name m.listed) in
          let b : meta_of (symbols ns) (app (canon_sym m.name 0) end) ≡ None = ap (meta_of (symbols ns)) (sym m.tree.tree ∙ e) ∙ z in
          let w : Some (canon_sym m.name 0) ≡ None = sym a ∙ b in
          cc

      none : meta_of (symbols ns) x ≡ None → (o : Option Tree) → given ts images x ≡ o → given ts images x ≡ None
      none z None e = e
      none z (Some w) e =
          let k = given-key ts images x w keys e in
          ap (given ts images) (sym k.2) ∙ at k.0 k.1 ∙ no k.0 k.1 k.2 z (found k.0 images) refl

      go : ((f : Sym) × (meta_of (symbols ns) x ≡ Some f) × (listed (symbols ns) f ≡ true) × (x ≡ app f end)) ⊎ (meta_of (symbols ns) x ≡ None) → given ts images x ≡ value_of (λ f. tree_at ts spare) (meta_of (symbols ns) x)
      go (inl h) = some h.0 h.2 h.3 ∙ sym (ap (value_of (λ f. tree_at ts spare)) h.1)
      go (inr z) = none z (given ts images x) refl ∙ sym (ap (value_of (λ f. tree_at ts spare)) z)

-- the loop
pub ground_none : (ts : List Tree) (ns : List ℕ) (spare : ℕ) (images : List (ℕ × ℕ)) → spare < length ts → images ≡ [] → AreGround ts (take 0 ns) spare images
ground_none ts ns spare images l e =
    record {
      within = l;
      only = λ q k f. cc (ap (found q) (sym e) ∙ f);
      all = λ n h. absurd h;
    }

pub ground_more : (ts now : List Tree) (ns : List ℕ) (k i spare : ℕ) (old new : List (ℕ × ℕ)) → Extends ts now → k < length ns → HasTree now i (app (canon_sym (get_or ns k 0) 0) end) → ((q : ℕ) → found q new ≡ cond (is_at (nat_cmp i) q) (Some spare) (found q old)) → AreGround ts (take k ns) spare old → AreGround now (take (k + 1) ns) spare new
ground_more ts now ns k i spare old new x l h f g =
    record {
      within = let a = longer ts now x in let b = g.within in omega arith;
      only = λ q m e. only q m e (is_at (nat_cmp i) q) refl;
      all = λ n a. all n (In-parts n (take k ns) (get_or ns k 0 ∷ []) (subst (In n) step a));
    }
  where
    step : take (k + 1) ns ≡ take k ns ++ get_or ns k 0 ∷ []
    step = take_more ns k 0 l

    last : In (get_or ns k 0) (take (k + 1) ns)
    last = subst (In (get_or ns k 0)) (sym step) (In-append-right (get_or ns k 0) (take k ns) (get_or ns k 0 ∷ []) (inl refl))

    only : (q m : ℕ) → found q new ≡ Some m → (b : Bool) → is_at (nat_cmp i) q ≡ b → (m ≡ spare) × IsMetaNode now (take (k + 1) ns) q
    only q m e true z = (some_same m spare (sym e ∙ f q ∙ ap (λ b. cond b (Some spare) (found q old)) z), record { name = get_or ns k 0; listed = last; tree = subst (λ j. HasTree now j (app (canon_sym (get_or ns k 0) 0) end)) (at_key i q z) h })
      where
        some_same : (x y : ℕ) → Some x ≡ Some y → x ≡ y
        some_same x y p = cc
    only q m e false z =
        let o = g.only q m (sym (ap (λ b. cond b (Some spare) (found q old)) z) ∙ sym (f q) ∙ e) in
        (o.0, record { name = o.1.name; listed = subst (In o.1.name) (sym step) (In-append-left o.1.name (take k ns) (get_or ns k 0 ∷ []) o.1.listed); tree = HasTree-more ts now q (app (canon_sym o.1.name 0) end) x o.1.tree })

    kept : (n : ℕ) → HasGround ts n spare old → HasGround now n spare new
    kept n a = record {
      node = a.node;
      image = go (is_at (nat_cmp i) a.node) refl;
      tree = HasTree-more ts now a.node (app (canon_sym n 0) end) x a.tree;
    }
      where
        go : (b : Bool) → is_at (nat_cmp i) a.node ≡ b → found a.node new ≡ Some spare
        go true z = f a.node ∙ ap (λ b. cond b (Some spare) (found a.node old)) z
        go false z = f a.node ∙ ap (λ b. cond b (Some spare) (found a.node old)) z ∙ a.image

    all : (n : ℕ) → In n (take k ns) ⊎ In n (get_or ns k 0 ∷ []) → HasGround now n spare new
    all n (inl a) = kept n (g.all n a)
    all n (inr (inl e)) = record { node = i; image = f i ∙ ap (λ b. cond b (Some spare) (found i old)) (at_itself i); tree = subst (λ m. HasTree now i (app (canon_sym m 0) end)) (sym e) h }
    all n (inr (inr a)) = absurd a

pub ground_all : (ts : List Tree) (ns : List ℕ) (k spare : ℕ) (images : List (ℕ × ℕ)) → length ns ≤ k → AreGround ts (take k ns) spare images → AreGround ts ns spare images
ground_all ts ns k spare images l g = subst (λ xs. AreGround ts xs spare images) (take_all k ns l) g

pub ground_within : (ts : List Tree) (ns : List ℕ) (spare : ℕ) (images : List (ℕ × ℕ)) → AreGround ts ns spare images → AreWithin (length ts) images
ground_within ts ns spare images g q k f =
    let o = g.only q k f in (o.1.tree.within, subst (λ x. x < length ts) (sym o.0) g.within)

pub ground_ok : {E : Type 0} (r : Result ℕ E) (ts mid now : List Tree) (ns : List ℕ) (spare e : ℕ) (images : List (ℕ × ℕ)) → IsDistinct mid → Extends ts mid → spare < length ts → e < length ts → AreGround mid ns spare images → IfOk r (λ k. HasTree now k (moved (given mid images) (tree_at mid e))) → IfOk r (λ k. HasTree now k (assign (symbols ns) (λ f. tree_at ts spare) (tree_at ts e)))
ground_ok (Err z) ts mid now ns spare e images d x ls le g h = h
ground_ok (Ok k) ts mid now ns spare e images d x ls le g h =
    record { within = h.within; tree = h.tree ∙ moved-assign (given mid images) (symbols ns) (λ f. tree_at mid spare) (ground-given mid ns spare images d g) (tree_at mid e) ∙ (λ i. assign (symbols ns) (λ f. same_tree ts mid spare x ls i) (same_tree ts mid e x le i)) }
