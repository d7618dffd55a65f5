-- The rounds of the unifier: what it finds unifies, every unifier goes through it, and it finds one where there is one.
use Rattle.std.specs.Prelude.{◌≡◌, ℕ, zero, suc, ◌≤◌, ◌<◌, Bool, true, false, Option, Some, None, List, [], ◌∷◌, ◌⊎◌, length}
use Rattle.std.proofs.Common.{refl, ap, sym, ◌∙◌, arith, subst, inl, inr}
use Rattle.core_expr.specs.declared.head.Sym.{Sym}
use Rattle.core_expr.specs.Tree.{Tree, Parts}
use Rattle.core_expr.specs.Tree.Tree.{bound, app, node, bind}
use Rattle.core_expr.specs.Tree.Parts.{end, part}
use Rattle.core_expr.specs.Put.{IsScoped}
use Rattle.core_expr.specs.Terms.{same_sym, nodes, is_scoped}
use Rattle.core_expr.proofs.Equal.{scoped-true, true-scoped, sym-same}
use Rattle.unifier_definition.specs.Metas.{listed, without, has_meta, assign, assigns, put}
use Rattle.unifier_definition.specs.Unify.{Difference, difference, Binding, extended, may_bind, unify, mgu, bound_to, answers}
use Rattle.unifier_definition.specs.Unify.Difference.{Same, Clash, Bind}
use Rattle.unifier_definition.specs.Laws.{IsUnifier}
use Rattle.unifier_definition.proofs.Substituted.{true_not_false, either, assign-meta, fused, still-listed, without-less, forced-put, dropped-put, scoped-back, scoped-assign, occurs-smaller, not-occurring}
use Rattle.unifier_definition.proofs.Differs.{Within, Says, difference-says}

abbrev or_itself : Sym → Option Tree → Tree
or_itself f o = elim o [ None ↦ app f end | Some t ↦ t ]

abbrev got : List Binding → Option (List Binding) → List Binding
got x None = x
got x (Some y) = y

-- the new substitution is the old one with the term put in
answers-extended : (m : Sym) (u : Tree) (bs : List Binding) (g : Sym) → answers (extended m u bs) g ≡ put m u (answers bs g)
answers-extended m u [] g = go (same_sym m g)
  where
    go : (x : Bool) → or_itself g (either x (Some u) None) ≡ either (either x true false) u (app g end)
    go true = refl
    go false = refl
answers-extended m u (b ∷ bs) g = go (same_sym b.name g) (answers-extended m u bs g)
  where
    go : (x : Bool) → answers (extended m u bs) g ≡ put m u (answers bs g)
        → or_itself g (either x (Some (put m u b.term)) (bound_to g (extended m u bs))) ≡ put m u (or_itself g (either x (Some b.term) (bound_to g bs)))
    go true ih = refl
    go false ih = ih

assign-extended : (ms : List Sym) (m : Sym) (u : Tree) (bs : List Binding) → listed ms m ≡ true → (e : Tree) → put m u (assign ms (answers bs) e) ≡ assign ms (answers (extended m u bs)) e
assign-extended ms m u bs lm = fused (m ∷ []) ms ms (λ f. u) (answers bs) (answers (extended m u bs)) leaf
  where
    leaf : (g : Sym) → put m u (assign ms (answers bs) (app g end)) ≡ assign ms (answers (extended m u bs)) (app g end)
    leaf g = go (listed ms g) refl
      where
        apart : listed ms g ≡ false → (x : Bool) → same_sym m g ≡ x → either (either x true false) u (app g end) ≡ app g end
        apart q true e = absurd (true_not_false (sym lm ∙ ap (listed ms) (sym-same m g e) ∙ q))
        apart q false e = refl

        go : (x : Bool) → listed ms g ≡ x → put m u (either x (answers bs g) (app g end)) ≡ either x (answers (extended m u bs) g) (app g end)
        go true q = sym (answers-extended m u bs g)
        go false q = apart q (same_sym m g) refl

-- all terms of the bindings are closed
abbrev TermsClosed : List Binding → Type 0
TermsClosed [] = Unit {0}
TermsClosed (b ∷ bs) = IsScoped 0 b.term × TermsClosed bs

closed-extended : (m : Sym) (u : Tree) → IsScoped 0 u → (bs : List Binding) → TermsClosed bs → TermsClosed (extended m u bs)
closed-extended m u cu [] h = (cu, tt)
closed-extended m u cu (b ∷ bs) h = (scoped-assign (m ∷ []) (λ f. u) (λ f. cu) 0 b.term h.0, closed-extended m u cu bs h.1)

closed-answers : (bs : List Binding) → TermsClosed bs → (g : Sym) → IsScoped 0 (answers bs g)
closed-answers [] h g = tt
closed-answers (b ∷ bs) h g = go (same_sym b.name g) (closed-answers bs h.1 g)
  where
    go : (x : Bool) → IsScoped 0 (answers bs g) → IsScoped 0 (or_itself g (either x (Some b.term) (bound_to g bs)))
    go true k = h.0
    go false k = k

-- the test of a term that is to be bound
tested : (x y : Bool) → either x (either y false true) false ≡ true → (x ≡ true) × (y ≡ false)
tested true true h = absurd (true_not_false (sym h))
tested true false h = (refl, refl)
tested false y h = absurd (true_not_false (sym h))

-- one round, by the difference and by the test of the term that is to be bound
abbrev tried : ℕ → List Sym → List Binding → Tree → Tree → Sym → Tree → Bool → Option (List Binding)
tried n js bs s t m u x = elim x [ true ↦ unify n (without m js) (extended m u bs) (put m u s) (put m u t) | false ↦ None ]

abbrev round : ℕ → List Sym → List Binding → Tree → Tree → Difference → Option (List Binding)
round n js bs s t d = elim d [ Same ↦ Some bs | Clash ↦ None | Bind m u ↦ tried n js bs s t m u (may_bind m u) ]

abbrev last_round : List Binding → Difference → Option (List Binding)
last_round bs d = elim d [ Same ↦ Some bs | Clash ↦ None | Bind m u ↦ None ]

-- What a property that each round keeps is for the answer: it holds of the answer where the two terms are the same.
module _ (P : List Sym → List Binding → Tree → Tree → Type 0)
    (keeps : (js : List Sym) (bs : List Binding) (s t : Tree) (m : Sym) (u : Tree) → Says js s t (Bind m u) → is_scoped 0 u ≡ true → has_meta (m ∷ []) u ≡ false → P js bs s t → P (without m js) (extended m u bs) (put m u s) (put m u t)) where
  answer-has : (n : ℕ) (js : List Sym) (bs cs : List Binding) (s t : Tree) → P js bs s t → unify n js bs s t ≡ Some cs → (ks : List Sym) × (e : Tree) × P ks cs e e
  answer-has zero js bs cs s t p h = go (difference js s t) (difference-says js s t) h
    where
      go : (d : Difference) → Says js s t d → last_round bs d ≡ Some cs → (ks : List Sym) × (e : Tree) × P ks cs e e
      go Same e h = (js, t, subst (λ x. P js x t t) (ap (got bs) h) (subst (λ x. P js bs x t) e p))
      go Clash e h = cc
      go (Bind m u) e h = cc
  answer-has (suc n) js bs cs s t p h = go (λ m u. answer-has n (without m js) (extended m u bs) cs (put m u s) (put m u t)) (difference js s t) (difference-says js s t) h
    where
      go : ((m : Sym) (u : Tree) → P (without m js) (extended m u bs) (put m u s) (put m u t) → unify n (without m js) (extended m u bs) (put m u s) (put m u t) ≡ Some cs → (ks : List Sym) × (e : Tree) × P ks cs e e)
          → (d : Difference) → Says js s t d → round n js bs s t d ≡ Some cs → (ks : List Sym) × (e : Tree) × P ks cs e e
      go ih Same e h = (js, t, subst (λ x. P js x t t) (ap (got bs) h) (subst (λ x. P js bs x t) e p))
      go ih Clash e h = cc
      go ih (Bind m u) e h = bound_now (may_bind m u) refl h
        where
          bound_now : (x : Bool) → may_bind m u ≡ x → tried n js bs s t m u x ≡ Some cs → (ks : List Sym) × (e : Tree) × P ks cs e e
          bound_now false q h = cc
          bound_now true q h = let w = tested (is_scoped 0 u) (has_meta (m ∷ []) u) q in ih m u (keeps js bs s t m u e w.0 w.1 p) h

-- the bindings so far: the two terms are what they make of those that were given, and bind metavariables of the list to closed terms
abbrev Run : List Sym → Tree → Tree → List Sym → List Binding → Tree → Tree → Type 0
Run ms s0 t0 js bs s t =
    Within js ms × TermsClosed bs × (s ≡ assign ms (answers bs) s0) × (t ≡ assign ms (answers bs) t0) × ((f : Sym) (u : Tree) → bound_to f bs ≡ Some u → listed ms f ≡ true)

listed-extended : (ms : List Sym) (m : Sym) (u : Tree) → listed ms m ≡ true → (bs : List Binding) → ((f : Sym) (r : Tree) → bound_to f bs ≡ Some r → listed ms f ≡ true) → (f : Sym) (r : Tree) → bound_to f (extended m u bs) ≡ Some r → listed ms f ≡ true
listed-extended ms m u lm [] k f r h = go (same_sym m f) refl h
  where
    go : (x : Bool) → same_sym m f ≡ x → either x (Some u) None ≡ Some r → listed ms f ≡ true
    go true e h = ap (listed ms) (sym (sym-same m f e)) ∙ lm
    go false e h = cc
listed-extended ms m u lm (b ∷ bs) k f r h = go (same_sym b.name f) refl (λ later. listed-extended ms m u lm bs later f r) h
  where
    later : same_sym b.name f ≡ false → (g : Sym) (w : Tree) → bound_to g bs ≡ Some w → listed ms g ≡ true
    later e g w q = other (same_sym b.name g) refl
      where
        other : (x : Bool) → same_sym b.name g ≡ x → listed ms g ≡ true
        other true y = k g b.term (ap (λ z. either z (Some b.term) (bound_to g bs)) y)
        other false y = k g w (ap (λ z. either z (Some b.term) (bound_to g bs)) y ∙ q)

    go : (x : Bool) → same_sym b.name f ≡ x → (((g : Sym) (w : Tree) → bound_to g bs ≡ Some w → listed ms g ≡ true) → bound_to f (extended m u bs) ≡ Some r → listed ms f ≡ true)
        → either x (Some (put m u b.term)) (bound_to f (extended m u bs)) ≡ Some r → listed ms f ≡ true
    go true e ih h = k f b.term (ap (λ y. either y (Some b.term) (bound_to f bs)) e)
    go false e ih h = ih (later e) h

run-keeps : (ms : List Sym) (s0 t0 : Tree) (js : List Sym) (bs : List Binding) (s t : Tree) (m : Sym) (u : Tree) → Says js s t (Bind m u) → is_scoped 0 u ≡ true → has_meta (m ∷ []) u ≡ false
    → Run ms s0 t0 js bs s t → Run ms s0 t0 (without m js) (extended m u bs) (put m u s) (put m u t)
run-keeps ms s0 t0 js bs s t m u b cu off r =
    let lm : listed ms m ≡ true = r.0 m b.0 in (
      (λ g h. r.0 g (still-listed m js g h)),
      closed-extended m u (scoped-true 0 u cu) bs r.1,
      ap (put m u) r.2 ∙ assign-extended ms m u bs lm s0,
      ap (put m u) r.3 ∙ assign-extended ms m u bs lm t0,
      listed-extended ms m u lm bs r.4,
    )

mutual
  assign-none : (ms : List Sym) (e : Tree) → assign ms (answers []) e ≡ e
  assign-none ms (bound i) = refl
  assign-none ms (app f end) = go (listed ms f)
    where
      go : (x : Bool) → either x (app f end) (app f end) ≡ app f end
      go true = refl
      go false = refl
  assign-none ms (app f (part e ps)) = λ i. app f (part (assign-none ms e i) (assigns-none ms ps i))
  assign-none ms (node h ns ps) = ap (node h ns) (assigns-none ms ps)
  assign-none ms (bind b ps e) = λ i. bind b (assigns-none ms ps i) (assign-none ms e i)

  assigns-none : (ms : List Sym) (ps : Parts) → assigns ms (answers []) ps ≡ ps
  assigns-none ms end = refl
  assigns-none ms (part e ps) = λ i. part (assign-none ms e i) (assigns-none ms ps i)

-- the answer is a run whose two terms are the same
answer-runs : (ms : List Sym) (s t : Tree) (bs : List Binding) → mgu ms s t ≡ Some bs → (ks : List Sym) × (e : Tree) × Run ms s t ks bs e e
answer-runs ms s t bs h =
    answer-has (Run ms s t) (run-keeps ms s t) (length ms) ms [] bs s t ((λ g h. h), tt, sym (assign-none ms s), sym (assign-none ms t), (λ f u q. cc)) h

pub mgu-unifies : (ms : List Sym) (s t : Tree) (bs : List Binding) → mgu ms s t ≡ Some bs → IsUnifier ms (answers bs) s t
mgu-unifies ms s t bs h = let r = answer-runs ms s t bs h in (closed-answers bs r.2.1, sym r.2.2 ∙ r.2.3)

pub mgu-listed : (ms : List Sym) (s t : Tree) (bs : List Binding) → mgu ms s t ≡ Some bs → (f : Sym) (u : Tree) → bound_to f bs ≡ Some u → listed ms f ≡ true
mgu-listed ms s t bs h = (answer-runs ms s t bs h).2.4

-- every unifier goes through the bindings so far
abbrev Through : List Sym → (Sym → Tree) → List Sym → List Binding → Tree → Tree → Type 0
Through ms v js bs s t = Within js ms × (assign ms v s ≡ assign ms v t) × ((g : Sym) → listed ms g ≡ true → assign ms v (answers bs g) ≡ v g)

through-keeps : (ms : List Sym) (v : Sym → Tree) (js : List Sym) (bs : List Binding) (s t : Tree) (m : Sym) (u : Tree) → Says js s t (Bind m u) → is_scoped 0 u ≡ true → has_meta (m ∷ []) u ≡ false
    → Through ms v js bs s t → Through ms v (without m js) (extended m u bs) (put m u s) (put m u t)
through-keeps ms v js bs s t m u b cu off r =
    let put_in : (e : Tree) → assign ms v (put m u e) ≡ assign ms v e = forced-put ms v m u (r.0 m b.0) (b.2 ms v r.0 r.1) in (
      (λ g h. r.0 g (still-listed m js g h)),
      put_in s ∙ r.1 ∙ sym (put_in t),
      (λ g lg. ap (assign ms v) (answers-extended m u bs g) ∙ put_in (answers bs g) ∙ r.2 g lg),
    )

pub mgu-general : (ms : List Sym) (s t : Tree) (bs : List Binding) (v : Sym → Tree) → mgu ms s t ≡ Some bs → IsUnifier ms v s t → (f : Sym) → listed ms f ≡ true → assign ms v (answers bs f) ≡ v f
mgu-general ms s t bs v h k =
    (answer-has (Through ms v) (through-keeps ms v) (length ms) ms [] bs s t ((λ g q. q), k.1, assign-meta ms v) h).2.2

-- where there is a unifier, and room for each metavariable, the unifier finds one
unify-finds : (v : Sym → Tree) → ((g : Sym) → IsScoped 0 (v g)) → (n : ℕ) (js : List Sym) (bs : List Binding) (s t : Tree) → length js ≤ n → assign js v s ≡ assign js v t → (cs : List Binding) × (unify n js bs s t ≡ Some cs)
unify-finds v cv zero js bs s t room e0 = go (difference js s t) (difference-says js s t)
  where
    go : (d : Difference) → Says js s t d → (cs : List Binding) × (last_round bs d ≡ Some cs)
    go Same e = (bs, refl)
    go Clash e = absurd (e v e0)
    go (Bind m u) b = absurd (none (without-less m js b.0))
      where
        none : length (without m js) < length js → ⊥
        none k = omega arith
unify-finds v cv (suc n) js bs s t room e0 = go (λ m u. unify-finds v cv n (without m js) (extended m u bs) (put m u s) (put m u t)) (difference js s t) (difference-says js s t)
  where
    go : ((m : Sym) (u : Tree) → length (without m js) ≤ n → assign (without m js) v (put m u s) ≡ assign (without m js) v (put m u t)
        → (cs : List Binding) × (unify n (without m js) (extended m u bs) (put m u s) (put m u t) ≡ Some cs))
        → (d : Difference) → Says js s t d → (cs : List Binding) × (round n js bs s t d ≡ Some cs)
    go ih Same e = (bs, refl)
    go ih Clash e = absurd (e v e0)
    go ih (Bind m u) b = bound_now (is_scoped 0 u) refl (has_meta (m ∷ []) u) refl
      where
        forced : v m ≡ assign js v u
        forced = b.2 js v (λ g h. h) e0

        small : (u ≡ app m end) ⊎ (nodes (v m) < nodes (assign js v u)) → ⊥
        small (inl p) = b.1 p
        small (inr p) = less (ap nodes forced) p
          where
            less : nodes (v m) ≡ nodes (assign js v u) → nodes (v m) < nodes (assign js v u) → ⊥
            less e p = omega arith

        bound_now : (x : Bool) → is_scoped 0 u ≡ x → (y : Bool) → has_meta (m ∷ []) u ≡ y → (cs : List Binding) × (tried n js bs s t m u (either x (either y false true) false) ≡ Some cs)
        bound_now false q y p = absurd (true_not_false (sym (true-scoped 0 u (scoped-back js v 0 u (subst (IsScoped 0) forced (cv m)))) ∙ q))
        bound_now true q true p = absurd (small (occurs-smaller js v m b.0 u p))
        bound_now true q false p =
            let put_in : (e : Tree) → assign (without m js) v (put m u e) ≡ assign js v e = dropped-put js v m u b.0 (forced ∙ sym (not-occurring js v m u p)) in
            ih m u (omega (arith, without-less m js b.0)) (put_in s ∙ e0 ∙ sym (put_in t))

pub mgu-complete : (ms : List Sym) (s t : Tree) (v : Sym → Tree) → IsUnifier ms v s t → (bs : List Binding) × (mgu ms s t ≡ Some bs)
mgu-complete ms s t v k = unify-finds v k.0 (length ms) ms [] s t (omega arith) k.1

-- with room for each metavariable the answer is the same
unify-room : (n m : ℕ) (js : List Sym) (bs : List Binding) (s t : Tree) → length js ≤ n → length js ≤ m → unify n js bs s t ≡ unify m js bs s t
unify-room zero zero js bs s t p q = refl
unify-room zero (suc m) js bs s t p q = go (difference js s t) (difference-says js s t)
  where
    go : (d : Difference) → Says js s t d → last_round bs d ≡ round m js bs s t d
    go Same e = refl
    go Clash e = refl
    go (Bind x u) b = absurd (none (without-less x js b.0))
      where
        none : length (without x js) < length js → ⊥
        none k = omega arith
unify-room (suc n) zero js bs s t p q = go (difference js s t) (difference-says js s t)
  where
    go : (d : Difference) → Says js s t d → round n js bs s t d ≡ last_round bs d
    go Same e = refl
    go Clash e = refl
    go (Bind x u) b = absurd (none (without-less x js b.0))
      where
        none : length (without x js) < length js → ⊥
        none k = omega arith
unify-room (suc n) (suc m) js bs s t p q = go (λ x u. unify-room n m (without x js) (extended x u bs) (put x u s) (put x u t)) (difference js s t) (difference-says js s t)
  where
    go : ((x : Sym) (u : Tree) → length (without x js) ≤ n → length (without x js) ≤ m → unify n (without x js) (extended x u bs) (put x u s) (put x u t) ≡ unify m (without x js) (extended x u bs) (put x u s) (put x u t))
        → (d : Difference) → Says js s t d → round n js bs s t d ≡ round m js bs s t d
    go ih Same e = refl
    go ih Clash e = refl
    go ih (Bind x u) b = bound_now (may_bind x u) (ih x u (omega (arith, without-less x js b.0)) (omega (arith, without-less x js b.0)))
      where
        bound_now : (y : Bool) → unify n (without x js) (extended x u bs) (put x u s) (put x u t) ≡ unify m (without x js) (extended x u bs) (put x u s) (put x u t) → tried n js bs s t x u y ≡ tried m js bs s t x u y
        bound_now false e = refl
        bound_now true e = e

pub mgu-room : (ms : List Sym) (s t : Tree) (n : ℕ) → length ms ≤ n → unify n ms [] s t ≡ mgu ms s t
mgu-room ms s t n r = unify-room n (length ms) ms [] s t r (omega arith)
