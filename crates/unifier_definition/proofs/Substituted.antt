-- Substitutions: one after the other, on closed terms, and where a metavariable occurs.
use Rattle.std.specs.Prelude.{◌≡◌, ℕ, suc, ◌+◌, ◌≤◌, ◌<◌, Bool, true, false, List, [], ◌∷◌, ◌⊎◌, length}
use Rattle.std.proofs.Common.{refl, ap, sym, ◌∙◌, arith, subst, inl, inr}
use Rattle.core_expr.specs.declared.head.Sym.{Sym}
use Rattle.core_expr.specs.Tree.{Tree, Parts}
use Rattle.core_expr.specs.Tree.Tree.{bound, app, node, bind}
use Rattle.core_expr.specs.Tree.Parts.{end, part}
use Rattle.core_expr.specs.Put.{IsScoped, AreScoped}
use Rattle.core_expr.specs.Terms.{same_sym, nodes, nodes_of}
use Rattle.core_expr.proofs.Equal.{sym-refl, sym-same}
use Rattle.core_expr.proofs.Laws.{IsScoped-shift, shift_closed}
use Rattle.unifier_definition.specs.Metas.{listed, without, has_meta, have_meta, assign, assigns, put}

pub true_not_false : true ≡ false → ⊥
true_not_false e = cc

-- the value of a symbol without arguments
abbrev pub either : {A : Type 0} → Bool → A → A → A
either x a b = elim x [ true ↦ a | false ↦ b ]

pub assign-meta : (ms : List Sym) (v : Sym → Tree) (f : Sym) → listed ms f ≡ true → assign ms v (app f end) ≡ v f
assign-meta ms v f h = ap (λ x. either x (v f) (app f end)) h

pub assign-other : (ms : List Sym) (v : Sym → Tree) (f : Sym) → listed ms f ≡ false → assign ms v (app f end) ≡ app f end
assign-other ms v f h = ap (λ x. either x (v f) (app f end)) h

pub listed-one : (m g : Sym) → listed (m ∷ []) g ≡ same_sym m g
listed-one m g = go (same_sym m g)
  where
    go : (x : Bool) → either x true false ≡ x
    go true = refl
    go false = refl

-- one substitution after another is a third, where it is so on the symbols without arguments
module _ (ks js ls : List Sym) (w v z : Sym → Tree) (leaf : (g : Sym) → assign ks w (assign js v (app g end)) ≡ assign ls z (app g end)) where
  mutual
    pub fused : (e : Tree) → assign ks w (assign js v e) ≡ assign ls z e
    fused (bound i) = refl
    fused (app g end) = leaf g
    fused (app g (part e ps)) = λ i. app g (part (fused e i) (all-fused ps i))
    fused (node k ns ps) = ap (node k ns) (all-fused ps)
    fused (bind b ps e) = λ i. bind b (all-fused ps i) (fused e i)

    pub all-fused : (ps : Parts) → assigns ks w (assigns js v ps) ≡ assigns ls z ps
    all-fused end = refl
    all-fused (part e ps) = λ i. part (fused e i) (all-fused ps i)

-- lists of symbols
pub listed-without : (m : Sym) (js : List Sym) (g : Sym) → same_sym m g ≡ false → listed (without m js) g ≡ listed js g
listed-without m [] g h = refl
listed-without m (k ∷ js) g h = go (same_sym m k) refl (listed-without m js g h)
  where
    go : (x : Bool) → same_sym m k ≡ x → listed (without m js) g ≡ listed js g
        → listed (either x (without m js) (k ∷ without m js)) g ≡ either (same_sym k g) true (listed js g)
    go true e ih = ih ∙ sym (ap (λ x. either x true (listed js g)) (ap (λ x. same_sym x g) (sym (sym-same m k e)) ∙ h))
    go false e ih = ap (either (same_sym k g) true) ih

pub still-listed : (m : Sym) (js : List Sym) (g : Sym) → listed (without m js) g ≡ true → listed js g ≡ true
still-listed m [] g h = h
still-listed m (k ∷ js) g h = go (same_sym m k) (still-listed m js g) h
  where
    right : (y : Bool) → listed js g ≡ true → either y true (listed js g) ≡ true
    right true h = refl
    right false h = h

    both : (y : Bool) → (listed (without m js) g ≡ true → listed js g ≡ true) → either y true (listed (without m js) g) ≡ true → either y true (listed js g) ≡ true
    both true ih h = refl
    both false ih h = ih h

    go : (x : Bool) → (listed (without m js) g ≡ true → listed js g ≡ true) → listed (either x (without m js) (k ∷ without m js)) g ≡ true → either (same_sym k g) true (listed js g) ≡ true
    go true ih h = right (same_sym k g) (ih h)
    go false ih h = both (same_sym k g) ih h

pub without-fewer : (m : Sym) (js : List Sym) → length (without m js) ≤ length js
without-fewer m [] = omega arith
without-fewer m (k ∷ js) = go (same_sym m k) (without-fewer m js)
  where
    go : (x : Bool) → length (without m js) ≤ length js → length (either x (without m js) (k ∷ without m js)) ≤ suc (length js)
    go true h = omega arith
    go false h = omega arith

pub without-less : (m : Sym) (js : List Sym) → listed js m ≡ true → length (without m js) < length js
without-less m [] h = absurd (true_not_false (sym h))
without-less m (k ∷ js) h = go (same_sym m k) refl (same_sym k m) refl (without-fewer m js) (without-less m js) h
  where
    go : (x : Bool) → same_sym m k ≡ x → (y : Bool) → same_sym k m ≡ y → length (without m js) ≤ length js → (listed js m ≡ true → length (without m js) < length js)
        → either y true (listed js m) ≡ true → length (either x (without m js) (k ∷ without m js)) < suc (length js)
    go true e y q l ih h = omega arith
    go false e true q l ih h = absurd (true_not_false (sym (sym-refl k) ∙ ap (λ z. same_sym z k) (sym-same k m q) ∙ e))
    go false e false q l ih h = omega (arith, ih h)

-- putting a term in for a metavariable changes nothing for a substitution that gives both the same value
pub forced-put : (ks : List Sym) (v : Sym → Tree) (m : Sym) (u : Tree) → listed ks m ≡ true → v m ≡ assign ks v u → (e : Tree) → assign ks v (put m u e) ≡ assign ks v e
forced-put ks v m u lm forced = fused ks (m ∷ []) ks v (λ f. u) v leaf
  where
    leaf : (g : Sym) → assign ks v (put m u (app g end)) ≡ assign ks v (app g end)
    leaf g = go (same_sym m g) refl
      where
        go : (x : Bool) → same_sym m g ≡ x → assign ks v (either (either x true false) u (app g end)) ≡ assign ks v (app g end)
        go true e = sym forced ∙ sym (assign-meta ks v m lm) ∙ ap (λ z. assign ks v (app z end)) (sym-same m g e)
        go false e = refl

-- the same where the metavariable is no longer on the list
pub dropped-put : (js : List Sym) (v : Sym → Tree) (m : Sym) (u : Tree) → listed js m ≡ true → v m ≡ assign (without m js) v u → (e : Tree) → assign (without m js) v (put m u e) ≡ assign js v e
dropped-put js v m u lm forced = fused (without m js) (m ∷ []) js v (λ f. u) v leaf
  where
    leaf : (g : Sym) → assign (without m js) v (put m u (app g end)) ≡ assign js v (app g end)
    leaf g = go (same_sym m g) refl
      where
        go : (x : Bool) → same_sym m g ≡ x → assign (without m js) v (either (either x true false) u (app g end)) ≡ assign js v (app g end)
        go true e = sym forced ∙ sym (assign-meta js v m lm) ∙ ap (λ z. assign js v (app z end)) (sym-same m g e)
        go false e = ap (λ x. either x (v g) (app g end)) (listed-without m js g e)

-- closed terms
widened : (n : ℕ) (u : Tree) → IsScoped 0 u → IsScoped n u
widened n u h = subst (IsScoped n) (shift_closed 0 0 n u (omega arith) h) (IsScoped-shift 0 0 n n u (omega arith) h)

module _ (ms : List Sym) (v : Sym → Tree) where
  mutual
    pub scoped-back : (n : ℕ) (e : Tree) → IsScoped n (assign ms v e) → IsScoped n e
    scoped-back n (bound i) h = h
    scoped-back n (app f end) h = tt
    scoped-back n (app f (part e ps)) h = (scoped-back n e h.0, all-scoped-back n ps h.1)
    scoped-back n (node k ns ps) h = all-scoped-back n ps h
    scoped-back n (bind b ps e) h = (all-scoped-back n ps h.0, scoped-back (suc n) e h.1)

    all-scoped-back : (n : ℕ) (ps : Parts) → AreScoped n (assigns ms v ps) → AreScoped n ps
    all-scoped-back n end h = tt
    all-scoped-back n (part e ps) h = (scoped-back n e h.0, all-scoped-back n ps h.1)

  module _ (closed : (f : Sym) → IsScoped 0 (v f)) where
    mutual
      pub scoped-assign : (n : ℕ) (e : Tree) → IsScoped n e → IsScoped n (assign ms v e)
      scoped-assign n (bound i) h = h
      scoped-assign n (app f end) h = go (listed ms f)
        where
          go : (x : Bool) → IsScoped n (either x (v f) (app f end))
          go true = widened n (v f) (closed f)
          go false = tt
      scoped-assign n (app f (part e ps)) h = (scoped-assign n e h.0, all-scoped-assign n ps h.1)
      scoped-assign n (node k ns ps) h = all-scoped-assign n ps h
      scoped-assign n (bind b ps e) h = (all-scoped-assign n ps h.0, scoped-assign (suc n) e h.1)

      all-scoped-assign : (n : ℕ) (ps : Parts) → AreScoped n ps → AreScoped n (assigns ms v ps)
      all-scoped-assign n end h = tt
      all-scoped-assign n (part e ps) h = (scoped-assign n e h.0, all-scoped-assign n ps h.1)

-- what occurs
or_true : (x y : Bool) → either x true y ≡ true → (x ≡ true) ⊎ (y ≡ true)
or_true true y h = inl refl
or_true false y h = inr h

or_false : (x y : Bool) → either x true y ≡ false → (x ≡ false) × (y ≡ false)
or_false true y h = absurd (true_not_false h)
or_false false y h = (refl, h)

-- a metavariable that occurs in a term has a smaller value than the term, unless it is the term
module _ (js : List Sym) (v : Sym → Tree) (m : Sym) (lm : listed js m ≡ true) where
  at-most : (e : Tree) → (e ≡ app m end) ⊎ (nodes (v m) < nodes (assign js v e)) → nodes (v m) ≤ nodes (assign js v e)
  at-most e (inl p) = subst (λ x. nodes (v m) ≤ nodes x) (sym (ap (assign js v) p ∙ assign-meta js v m lm)) (omega arith)
  at-most e (inr p) = omega (arith, p)

  mutual
    pub occurs-smaller : (e : Tree) → has_meta (m ∷ []) e ≡ true → (e ≡ app m end) ⊎ (nodes (v m) < nodes (assign js v e))
    occurs-smaller (bound i) h = absurd (true_not_false (sym h))
    occurs-smaller (app g end) h = inl (ap (λ z. app z end) (sym (sym-same m g (sym (listed-one m g) ∙ h))))
    occurs-smaller (app g (part e ps)) h = inr (go (or_true (has_meta (m ∷ []) e) (have_meta (m ∷ []) ps) h) (occurs-smaller e) (occur-small ps))
      where
        go : (has_meta (m ∷ []) e ≡ true) ⊎ (have_meta (m ∷ []) ps ≡ true) → (has_meta (m ∷ []) e ≡ true → (e ≡ app m end) ⊎ (nodes (v m) < nodes (assign js v e)))
            → (have_meta (m ∷ []) ps ≡ true → nodes (v m) ≤ nodes_of (assigns js v ps)) → nodes (v m) < suc (nodes (assign js v e) + nodes_of (assigns js v ps))
        go (inl p) ih jh = omega (arith, at-most e (ih p))
        go (inr p) ih jh = omega (arith, jh p)
    occurs-smaller (node k ns ps) h = inr (omega (arith, occur-small ps h))
    occurs-smaller (bind b ps e) h = inr (go (or_true (have_meta (m ∷ []) ps) (has_meta (m ∷ []) e) h) (occurs-smaller e) (occur-small ps))
      where
        go : (have_meta (m ∷ []) ps ≡ true) ⊎ (has_meta (m ∷ []) e ≡ true) → (has_meta (m ∷ []) e ≡ true → (e ≡ app m end) ⊎ (nodes (v m) < nodes (assign js v e)))
            → (have_meta (m ∷ []) ps ≡ true → nodes (v m) ≤ nodes_of (assigns js v ps)) → nodes (v m) < suc (nodes_of (assigns js v ps) + nodes (assign js v e))
        go (inl p) ih jh = omega (arith, jh p)
        go (inr p) ih jh = omega (arith, at-most e (ih p))

    occur-small : (ps : Parts) → have_meta (m ∷ []) ps ≡ true → nodes (v m) ≤ nodes_of (assigns js v ps)
    occur-small end h = absurd (true_not_false (sym h))
    occur-small (part e ps) h = go (or_true (has_meta (m ∷ []) e) (have_meta (m ∷ []) ps) h) (occurs-smaller e) (occur-small ps)
      where
        go : (has_meta (m ∷ []) e ≡ true) ⊎ (have_meta (m ∷ []) ps ≡ true) → (has_meta (m ∷ []) e ≡ true → (e ≡ app m end) ⊎ (nodes (v m) < nodes (assign js v e)))
            → (have_meta (m ∷ []) ps ≡ true → nodes (v m) ≤ nodes_of (assigns js v ps)) → nodes (v m) ≤ nodes (assign js v e) + nodes_of (assigns js v ps)
        go (inl p) ih jh = omega (arith, at-most e (ih p))
        go (inr p) ih jh = omega (arith, jh p)

-- where a metavariable does not occur, it makes no difference whether it is on the list
module _ (js : List Sym) (v : Sym → Tree) (m : Sym) where
  mutual
    pub not-occurring : (e : Tree) → has_meta (m ∷ []) e ≡ false → assign (without m js) v e ≡ assign js v e
    not-occurring (bound i) h = refl
    not-occurring (app g end) h = ap (λ x. either x (v g) (app g end)) (listed-without m js g (sym (listed-one m g) ∙ h))
    not-occurring (app g (part e ps)) h = let p = or_false (has_meta (m ∷ []) e) (have_meta (m ∷ []) ps) h in λ i. app g (part (not-occurring e p.0 i) (all-not-occurring ps p.1 i))
    not-occurring (node k ns ps) h = ap (node k ns) (all-not-occurring ps h)
    not-occurring (bind b ps e) h = let p = or_false (have_meta (m ∷ []) ps) (has_meta (m ∷ []) e) h in λ i. bind b (all-not-occurring ps p.0 i) (not-occurring e p.1 i)

    all-not-occurring : (ps : Parts) → have_meta (m ∷ []) ps ≡ false → assigns (without m js) v ps ≡ assigns js v ps
    all-not-occurring end h = refl
    all-not-occurring (part e ps) h = let p = or_false (has_meta (m ∷ []) e) (have_meta (m ∷ []) ps) h in λ i. part (not-occurring e p.0 i) (all-not-occurring ps p.1 i)
