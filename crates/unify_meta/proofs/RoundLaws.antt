-- Rounds of the unifier by indices.
use Rattle.std.proofs.Common.{◌≡◌, ℕ, zero, suc, ◌+◌, ◌<◌, ◌≤◌, Bool, true, false, not, nat_eq, Option, Some, None, List, [], ◌∷◌, ◌++◌, length, get_or, take, refl, ap, sym, ◌∙◌, arith, subst, IsTrue, Result, Ok, Err}
use Rattle.std.specs.Prelude.{IfOk, ◌↔◌}
use Rattle.std.proofs.lemmas.List.{take_more}
use Rattle.core_expr.specs.declared.head.Sym.{Sym}
use Rattle.core_expr.specs.Tree.{Tree}
use Rattle.core_expr.specs.Tree.Tree.{app}
use Rattle.core_expr.specs.Tree.Parts.{end}
use Rattle.core_expr.specs.Terms.{same_sym, is_scoped}
use Rattle.core_expr.specs.Put.{IsScoped}
use Rattle.core_expr.specs.Nodes.{canon_sym}
use Rattle.core_expr.proofs.Equal.{scoped-true, true-scoped, nat-refl}
use Rattle.search_definition.specs.Terms.{occurs, replace}
use Rattle.unifier_definition.specs.Metas.{without, has_meta, put}
use Rattle.unifier_definition.specs.Unify.{Difference, Binding, difference, may_bind, put_into, extended, unify}
use Rattle.unifier_definition.specs.Unify.Difference.{Same, Clash, Bind}
use Rattle.term_bank.specs.Banks.{Extends, HasTree, tree_at}
use Rattle.term_bank.proofs.InstLaws.{same_tree, longer}
use Rattle.term_walks.proofs.NodeLaws.{HasTree-more}
use Rattle.unify_meta.specs.declared.binding.BoundMeta.{BoundMeta}
use Rattle.unify_meta.specs.declared.disagreement.Assignment.{Assignment}
use Rattle.unify_meta.specs.declared.round.Pending.{Pending}
use Rattle.unify_meta.specs.Metas.{symbols}
use Rattle.unify_meta.specs.Disagreements.{IsAssignment}
use Rattle.unify_meta.specs.Bindings.{bindings, TermsBelow}
use Rattle.unify_meta.specs.Rounds.{IsPending, IsBoundTo, unify_from}
use Rattle.unify_meta.proofs.MetaLaws.{same-constant, no_number, symbols-append}
use Rattle.unify_meta.proofs.PutLaws.{put-replace, has-occurs, select}

-- the metavariables but one
pub length-symbols : (xs : List ℕ) → length (symbols xs) ≡ length xs
length-symbols [] = refl
length-symbols (x ∷ xs) = ap suc (length-symbols xs)

without-push : (f g : Sym) (fs : List Sym) → without f (fs ++ g ∷ []) ≡ select (same_sym f g) (without f fs) (without f fs ++ g ∷ [])
without-push f g [] = go (same_sym f g)
  where
    go : (b : Bool) → select b [] (g ∷ []) ≡ select b [] ([] ++ g ∷ [])
    go true = refl
    go false = refl
without-push f g (h ∷ fs) = go (same_sym f h) (same_sym f g) (without-push f g fs)
  where
    go : (b c : Bool) → without f (fs ++ g ∷ []) ≡ select c (without f fs) (without f fs ++ g ∷ []) → select b (without f (fs ++ g ∷ [])) (h ∷ without f (fs ++ g ∷ [])) ≡ select c (select b (without f fs) (h ∷ without f fs)) (select b (without f fs) (h ∷ without f fs) ++ g ∷ [])
    go true true e = e
    go true false e = e
    go false true e = ap (λ ks. h ∷ ks) e
    go false false e = ap (λ ks. h ∷ ks) e

without-step : (number x : ℕ) (ms : List ℕ) (k : ℕ) → k < length ms → x ≡ get_or ms k 0 → without (canon_sym number 0) (symbols (take (k + 1) ms)) ≡ select (nat_eq number x) (without (canon_sym number 0) (symbols (take k ms))) (without (canon_sym number 0) (symbols (take k ms)) ++ canon_sym x 0 ∷ [])
without-step number x ms k l e =
    ap (λ xs. without (canon_sym number 0) (symbols xs)) (take_more ms k 0 l ∙ ap (λ y. take k ms ++ y ∷ []) (sym e))
    ∙ ap (without (canon_sym number 0)) (symbols-append (take k ms) (x ∷ []))
    ∙ without-push (canon_sym number 0) (canon_sym x 0) (symbols (take k ms))
    ∙ ap (λ b. select b (without (canon_sym number 0) (symbols (take k ms))) (without (canon_sym number 0) (symbols (take k ms)) ++ canon_sym x 0 ∷ [])) (same-constant number x)

pub without_kept : (number x : ℕ) (ms out more : List ℕ) (k : ℕ) → k < length ms → x ≡ get_or ms k 0 → (x ≡ number → ⊥) → more ≡ out ++ x ∷ [] → symbols out ≡ without (canon_sym number 0) (symbols (take k ms)) → symbols more ≡ without (canon_sym number 0) (symbols (take (k + 1) ms))
without_kept number x ms out more k l e ne m h =
    ap symbols m ∙ symbols-append out (x ∷ []) ∙ ap (λ fs. fs ++ canon_sym x 0 ∷ []) h
    ∙ sym (without-step number x ms k l e ∙ ap (λ b. select b (without (canon_sym number 0) (symbols (take k ms))) (without (canon_sym number 0) (symbols (take k ms)) ++ canon_sym x 0 ∷ [])) (no_number number x (λ z. ne (sym z))))

pub without_dropped : (number x : ℕ) (ms out : List ℕ) (k : ℕ) → k < length ms → x ≡ get_or ms k 0 → x ≡ number → symbols out ≡ without (canon_sym number 0) (symbols (take k ms)) → symbols out ≡ without (canon_sym number 0) (symbols (take (k + 1) ms))
without_dropped number x ms out k l e z h =
    h
    ∙ sym (without-step number x ms k l e ∙ ap (λ b. select b (without (canon_sym number 0) (symbols (take k ms))) (without (canon_sym number 0) (symbols (take k ms)) ++ canon_sym x 0 ∷ [])) (ap (nat_eq number) z ∙ nat-refl number))

-- whether it may be bound
pub not_closed : (m : Sym) (u : Tree) (b : Bool) → (IsTrue b ↔ IsScoped 0 u) → b ≡ false → false ≡ may_bind m u
not_closed m u b f e = sym (ap (λ x. select x (select (has_meta (m ∷ []) u) false true) false) (go (is_scoped 0 u) refl))
  where
    go : (x : Bool) → is_scoped 0 u ≡ x → is_scoped 0 u ≡ false
    go true z = let t : b ≡ true = f.1 (scoped-true 0 u z) in cc
    go false z = z

pub closed_binds : (m : Sym) (s u : Tree) (b o : Bool) → (IsTrue b ↔ IsScoped 0 u) → b ≡ true → s ≡ app m end → o ≡ occurs s u → not o ≡ may_bind m u
closed_binds m s u b o f e z h =
    flip o ∙ ap (λ x. select x false true) (h ∙ ap (λ y. occurs y u) z ∙ sym (has-occurs m u))
    ∙ ap (λ x. select x (select (has_meta (m ∷ []) u) false true) false) (sym (true-scoped 0 u (f.0 e)))
  where
    flip : (x : Bool) → not x ≡ select x false true
    flip true = refl
    flip false = refl

-- putting in
pub put_ok : {E : Type 0} (r : Result ℕ E) (now : List Tree) (m : Sym) (s u e : Tree) → s ≡ app m end → IfOk r (λ k. HasTree now k (replace s u e)) → IfOk r (λ k. HasTree now k (put m u e))
put_ok (Err z) now m s u e h a = a
put_ok (Ok k) now m s u e h a = record { within = a.within; tree = a.tree ∙ ap (λ x. replace x u e) h ∙ sym (put-replace m u e) }

pub assignment_more : (ts now : List Tree) (a : Assignment) → Extends ts now → IsAssignment ts a → IsAssignment now a
assignment_more ts now a x h =
    record { meta = HasTree-more ts now a.meta (app (canon_sym a.name 0) end) x h.meta; term = let l = longer ts now x in let t = h.term in omega arith }

pub bindings-more : (ts now : List Tree) (bs : List BoundMeta) → Extends ts now → TermsBelow (length ts) bs → bindings now bs ≡ bindings ts bs
bindings-more ts now [] x h = refl
bindings-more ts now (b ∷ bs) x h = λ i. record { name = canon_sym b.name 0; term = same_tree ts now b.term x h.0 i } ∷ bindings-more ts now bs x h.1 i

bindings-push : (ts : List Tree) (bs : List BoundMeta) (b : BoundMeta) → bindings ts (bs ++ b ∷ []) ≡ bindings ts bs ++ record { name = canon_sym b.name 0; term = tree_at ts b.term } ∷ []
bindings-push ts [] b = refl
bindings-push ts (c ∷ bs) b = ap (λ cs. record { name = canon_sym c.name 0; term = tree_at ts c.term } ∷ cs) (bindings-push ts bs b)

pub below-more : (m n : ℕ) (bs : List BoundMeta) → m ≤ n → TermsBelow m bs → TermsBelow n bs
below-more m n [] l h = tt
below-more m n (b ∷ bs) l h = (let t = h.0 in omega arith, below-more m n bs l h.1)

below-push : (n : ℕ) (bs : List BoundMeta) (b : BoundMeta) → TermsBelow n bs → b.term < n → TermsBelow n (bs ++ b ∷ [])
below-push n [] b h l = (l, tt)
below-push n (c ∷ bs) b h l = (h.0, below-push n bs b h.1 l)

put_into-push : (m : Sym) (u : Tree) (bs : List Binding) (b : Binding) → put_into m u (bs ++ b ∷ []) ≡ put_into m u bs ++ record { name = b.name; term = put m u b.term } ∷ []
put_into-push m u [] b = refl
put_into-push m u (c ∷ bs) b = ap (λ cs. record { name = c.name; term = put m u c.term } ∷ cs) (put_into-push m u bs b)

pub below_next : (now new : List Tree) (bs out : List BoundMeta) (b : BoundMeta) → Extends now new → TermsBelow (length now) bs → b.term < length new → out ≡ bs ++ b ∷ [] → TermsBelow (length new) out
below_next now new bs out b x h l e =
    subst (TermsBelow (length new)) (sym e) (below-push (length new) bs b (below-more (length now) (length new) bs (longer now new x) h) l)

-- one more binding with the term put in
pub put_next : (ts now new : List Tree) (m : Sym) (u v : Tree) (old more out : List BoundMeta) (k t : ℕ) (d : BoundMeta) → Extends now new → TermsBelow (length now) more → k < length old → bindings now more ≡ put_into m u (bindings ts (take k old)) → v ≡ tree_at ts (get_or old k d).term → HasTree new t (put m u v) → out ≡ more ++ record { name = (get_or old k d).name; term = t } ∷ [] → bindings new out ≡ put_into m u (bindings ts (take (k + 1) old))
put_next ts now new m u v old more out k t d x below l h ev g e =
    ap (bindings new) e ∙ bindings-push new more (record { name = (get_or old k d).name; term = t })
    ∙ (λ i. (bindings-more now new more x below ∙ h) i ++ record { name = canon_sym (get_or old k d).name 0; term = (g.tree ∙ ap (put m u) ev) i } ∷ [])
    ∙ sym (ap (λ bs. put_into m u (bindings ts bs)) (take_more old k d l) ∙ ap (put_into m u) (bindings-push ts (take k old) (get_or old k d)) ∙ put_into-push m u (bindings ts (take k old)) (record { name = canon_sym (get_or old k d).name 0; term = tree_at ts (get_or old k d).term }))

pub extended_last : (ts now : List Tree) (a : Assignment) (old more out : List BoundMeta) → Extends ts now → a.term < length ts → bindings now more ≡ put_into (canon_sym a.name 0) (tree_at ts a.term) (bindings ts old) → out ≡ more ++ record { name = a.name; term = a.term } ∷ [] → bindings now out ≡ extended (canon_sym a.name 0) (tree_at ts a.term) (bindings ts old)
extended_last ts now a old more out x l h e =
    ap (bindings now) e ∙ bindings-push now more (record { name = a.name; term = a.term })
    ∙ (λ i. h i ++ record { name = canon_sym a.name 0; term = same_tree ts now a.term x l i } ∷ [])

-- a round
abbrev after : {A : Type 0} → Difference → A → A → (Sym → Tree → A) → A
after d x y f = elim d [ Same ↦ x | Clash ↦ y | Bind m u ↦ f m u ]

module _ (js : List Sym) (bs : List Binding) (s t : Tree) (n : ℕ) where
  next : Sym → Tree → Option (List Binding)
  next m u = select (may_bind m u) (unify n (without m js) (extended m u bs) (put m u s) (put m u t)) None

  pub round_same : difference js s t ≡ Same → unify (suc n) js bs s t ≡ Some bs
  round_same e = ap (λ d. after d (Some bs) None (λ m u. select (may_bind m u) (unify n (without m js) (extended m u bs) (put m u s) (put m u t)) None)) e

  pub round_clash : difference js s t ≡ Clash → unify (suc n) js bs s t ≡ None
  round_clash e = ap (λ d. after d (Some bs) None (λ m u. select (may_bind m u) (unify n (without m js) (extended m u bs) (put m u s) (put m u t)) None)) e

  pub round_fails : (m : Sym) (u : Tree) → difference js s t ≡ Bind m u → may_bind m u ≡ false → unify (suc n) js bs s t ≡ None
  round_fails m u e f =
      ap (λ d. after d (Some bs) None (λ m u. select (may_bind m u) (unify n (without m js) (extended m u bs) (put m u s) (put m u t)) None)) e
      ∙ ap (λ b. select b (unify n (without m js) (extended m u bs) (put m u s) (put m u t)) None) f

  pub round_binds : (m : Sym) (u : Tree) → difference js s t ≡ Bind m u → may_bind m u ≡ true → unify (suc n) js bs s t ≡ unify n (without m js) (extended m u bs) (put m u s) (put m u t)
  round_binds m u e f =
      ap (λ d. after d (Some bs) None (λ m u. select (may_bind m u) (unify n (without m js) (extended m u bs) (put m u s) (put m u t)) None)) e
      ∙ ap (λ b. select b (unify n (without m js) (extended m u bs) (put m u s) (put m u t)) None) f

-- no room is left
pub last_same : (js : List Sym) (bs : List Binding) (s t : Tree) → difference js s t ≡ Same → unify zero js bs s t ≡ Some bs
last_same js bs s t e = ap (λ d. after d (Some bs) None (λ m u. None)) e

pub last_clash : (js : List Sym) (bs : List Binding) (s t : Tree) → difference js s t ≡ Clash → unify zero js bs s t ≡ None
last_clash js bs s t e = ap (λ d. after d (Some bs) None (λ m u. None)) e

pub last_binds : (js : List Sym) (bs : List Binding) (s t : Tree) (m : Sym) (u : Tree) → difference js s t ≡ Bind m u → unify zero js bs s t ≡ None
last_binds js bs s t m u e = ap (λ d. after d (Some bs) None (λ m u. None)) e

pub bound_pending : (ts now : List Tree) (p q : Pending) (a : Assignment) → IsBoundTo ts now p a q → IsPending (length now) q
bound_pending ts now p q a h = record { left = h.left.within; right = h.right.within; bound = h.below }

pub bound_unify : (ts now : List Tree) (p q : Pending) (a : Assignment) (n : ℕ) → difference (symbols p.free.items) (tree_at ts p.left) (tree_at ts p.right) ≡ Bind (canon_sym a.name 0) (tree_at ts a.term) → may_bind (canon_sym a.name 0) (tree_at ts a.term) ≡ true → IsBoundTo ts now p a q → unify_from (suc n) ts p ≡ unify_from n now q
bound_unify ts now p q a n e f h =
    round_binds (symbols p.free.items) (bindings ts p.bound.items) (tree_at ts p.left) (tree_at ts p.right) n (canon_sym a.name 0) (tree_at ts a.term) e f
    ∙ (λ i. unify n (sym h.free i) (sym h.bound i) (sym h.left.tree i) (sym h.right.tree i))

-- putting in after the bank has grown
pub put_later : (ts now new : List Tree) (m : Sym) (u e k : ℕ) → Extends ts now → u < length ts → e < length ts → HasTree new k (put m (tree_at now u) (tree_at now e)) → HasTree new k (put m (tree_at ts u) (tree_at ts e))
put_later ts now new m u e k x lu le h =
    record { within = h.within; tree = h.tree ∙ (λ i. put m (same_tree ts now u x lu i) (same_tree ts now e x le i)) }

pub extended_later : (ts now : List Tree) (m : Sym) (u : ℕ) (old items : List BoundMeta) → Extends ts now → u < length ts → TermsBelow (length ts) old → items ≡ old → extended m (tree_at now u) (bindings now items) ≡ extended m (tree_at ts u) (bindings ts old)
extended_later ts now m u old items x lu b e =
    (λ i. extended m (same_tree ts now u x lu i) (bindings now (e i))) ∙ ap (extended m (tree_at ts u)) (bindings-more ts now old x b)
