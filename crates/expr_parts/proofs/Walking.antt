-- The steps of the walk.
use Rattle.std.proofs.Common.{◌≡◌, ℕ, zero, suc, ◌+◌, ◌-◌, ◌<◌, ◌≤◌, List, [], ◌∷◌, ◌++◌, length, drop, slice_index_or, refl, sym, ap, subst, ◌∙◌, arith, append_assoc, append-nil, length-append}
use Rattle.std.proofs.Math.Seq.{take-append_seam, drop-append_seam}
use Rattle.std.specs.Prelude.{Option, Some, None, IsTrue}
use Rattle.core_expr.specs.declared.head.Sym.{Sym}
use Rattle.core_expr.specs.declared.row.RowKind.TheVariants as kind
use Rattle.core_expr.specs.Tree.{Tree, Parts, size, true_}
use Rattle.core_expr.specs.Tree.Tree.{bound, app, node, bind}
use Rattle.core_expr.specs.Tree.Parts.{end, part}
use Rattle.core_expr.specs.Heads.{subtrees, list_of, kind_number, kind_symbol, make, fits, table_numbers, IsWellFormed}
use Rattle.core_expr.specs.Flat.{rows_of}
use Rattle.core_expr.specs.Places.{subtree, kind_of, root_numbers}
use Rattle.core_expr.specs.Laws.{ShownMakes, ShownFits}
use Rattle.expr_parts.specs.declared.change.Change.{Change}
use Rattle.expr_parts.specs.declared.change.Change.TheVariants as change
use Rattle.expr_parts.specs.declared.task.Task.{Task}
use Rattle.expr_parts.specs.declared.task.Task.TheVariants as task
use Rattle.expr_parts.specs.Rebuilt.{otherwise, changed, rebuilt, all_rebuilt}
use Rattle.expr_parts.proofs.Formed.{part_formed}
use Rattle.expr_parts.specs.Walk.{joined, inner, parts_rebuilt, done, finish, IsFit, AreFit, Builds, Gives}

-- what the root of a well-formed tree shows fits
pub fits_here : ShownFits → (x : Tree) (h : ℕ) (f : Option Sym) (ns : List ℕ) (n : ℕ) → IsWellFormed x → h ≡ kind_number (kind_of x) → f ≡ kind_symbol (kind_of x) → ns ≡ root_numbers x → n ≡ length (subtrees x) → IsTrue (fits h f ns n)
fits_here shown x h f ns n w a b c d = rw (a, b, c, d) (shown x w)

pub none-there : (o : Option Tree) → ((x : Tree) → o ≡ Some x → ⊥) → o ≡ None
none-there None h = refl
none-there (Some x) h = absurd (h x refl)

module _ (c : Change) where
  -- ---- a node over its rebuilt parts

  length-parts : (d e : ℕ) (ts : List Tree) → length (parts_rebuilt c d e ts) ≡ length ts
  length-parts d e [] = refl
  length-parts d e (x ∷ []) = refl
  length-parts d e (x ∷ y ∷ ys) = ap suc (length-parts d e (y ∷ ys))

  part-first : (d e u : ℕ) (ts : List Tree) (k : ℕ) → k < length ts → (suc k ≡ length ts → u ≡ e) → (suc k < length ts → u ≡ d)
      → drop k (parts_rebuilt c d e ts) ≡ rebuilt c u (slice_index_or ts k true_) ∷ drop (suc k) (parts_rebuilt c d e ts)
  part-first d e u [] k l f g = absurd (omega arith)
  part-first d e u (x ∷ []) zero l f g = ap (λ n. rebuilt c n x ∷ []) (sym (f refl))
  part-first d e u (x ∷ []) (suc k) l f g = absurd (omega arith)
  part-first d e u (x ∷ y ∷ ys) zero l f g = ap (λ n. rebuilt c n x ∷ parts_rebuilt c d e (y ∷ ys)) (sym (g (omega arith)))
  part-first d e u (x ∷ y ∷ ys) (suc k) l f g = part-first d e u (y ∷ ys) k (omega arith) (λ q. f (omega (arith, q))) (λ q. g (omega (arith, q)))

  -- the part at a place, and those behind it
  pub drop-part : (d e u : ℕ) (ts : List Tree) (k m : ℕ) → m ≡ suc k → k < length ts → (m ≡ length ts → u ≡ e) → (m < length ts → u ≡ d)
      → drop k (parts_rebuilt c d e ts) ≡ rebuilt c u (slice_index_or ts k true_) ∷ drop m (parts_rebuilt c d e ts)
  drop-part d e u ts k m q l f g =
      part-first d e u ts k l (λ h. f (q ∙ h)) (λ h. g (omega (arith, q, h))) ∙ ap (λ n. rebuilt c u (slice_index_or ts k true_) ∷ drop n (parts_rebuilt c d e ts)) (sym q)

  pub drop-all : (d e : ℕ) (ts : List Tree) (n : ℕ) → n ≡ length ts → drop n (parts_rebuilt c d e ts) ≡ []
  drop-all d e ts n q = drop-past (parts_rebuilt c d e ts) n (omega (arith, q, length-parts d e ts))
    where
      drop-past : (us : List Tree) (n : ℕ) → length us ≤ n → drop n us ≡ []
      drop-past [] zero l = refl
      drop-past [] (suc n) l = refl
      drop-past (u ∷ us) zero l = absurd (omega arith)
      drop-past (u ∷ us) (suc n) l = drop-past us n (omega arith)

  same-depth : (d : ℕ) (ps : Parts) → parts_rebuilt c d d (list_of ps) ≡ list_of (all_rebuilt c d ps)
  same-depth d end = refl
  same-depth d (part x end) = refl
  same-depth d (part x (part y ps)) = ap (λ us. rebuilt c d x ∷ us) (same-depth d (part y ps))

  under-binder : (d : ℕ) (ps : Parts) (x : Tree) → parts_rebuilt c d (suc d) (list_of ps ++ x ∷ []) ≡ list_of (all_rebuilt c d ps) ++ rebuilt c (suc d) x ∷ []
  under-binder d end x = refl
  under-binder d (part y end) x = refl
  under-binder d (part y (part z ps)) x = ap (λ us. rebuilt c d y ∷ us) (under-binder d (part z ps) x)

  size-rebuilt : (d : ℕ) (ps : Parts) → size (all_rebuilt c d ps) ≡ size ps
  size-rebuilt d end = refl
  size-rebuilt d (part x ps) = ap suc (size-rebuilt d ps)

  -- a node that is no changed leaf is made of its rebuilt parts
  remade : ShownMakes → (d : ℕ) (x : Tree) → changed c d x ≡ None → make (kind_number (kind_of x)) (kind_symbol (kind_of x)) (root_numbers x) (parts_rebuilt c d (inner d (kind_of x)) (subtrees x)) ≡ rebuilt c d x
  remade shown d (bound i) h = shown (bound i) ∙ sym (ap (λ o. otherwise o (bound i)) h)
  remade shown d (app f ps) h =
      ap (make (kind_number (kind.Symbol f)) (kind_symbol (kind.Symbol f)) []) (same-depth d ps) ∙ shown (app f (all_rebuilt c d ps)) ∙ sym (ap (λ o. otherwise o (app f (all_rebuilt c d ps))) h)
  remade shown d (node m ns ps) h =
      (λ i. make (kind_number (kind.Plain m)) (kind_symbol (kind.Plain m)) (table_numbers m ns (sym (size-rebuilt d ps) i)) (same-depth d ps i)) ∙ shown (node m ns (all_rebuilt c d ps))
  remade shown d (bind b ps e) h =
      ap (make (kind_number (kind.Binding b)) (kind_symbol (kind.Binding b)) []) (under-binder d ps e) ∙ shown (bind b (all_rebuilt c d ps) (rebuilt c (suc d) e))

  leaf-is : (d : ℕ) (x leaf : Tree) → changed c d x ≡ Some leaf → rebuilt c d x ≡ leaf
  leaf-is d (bound i) leaf h = ap (λ o. otherwise o (bound i)) h
  leaf-is d (app f ps) leaf h = ap (λ o. otherwise o (app f (all_rebuilt c d ps))) h
  leaf-is d (node m ns ps) leaf h = none-there c h
    where
      none-there : (c : Change) → changed c d (node m ns ps) ≡ Some leaf → node m ns (all_rebuilt c d ps) ≡ leaf
      none-there change.Keep h = cc
      none-there (change.Bind s) h = cc
      none-there (change.Fill ts) h = cc
  leaf-is d (bind b ps e) leaf h = none-there c h
    where
      none-there : (c : Change) → changed c d (bind b ps e) ≡ Some leaf → bind b (all_rebuilt c d ps) (rebuilt c (suc d) e) ≡ leaf
      none-there change.Keep h = cc
      none-there (change.Bind s) h = cc
      none-there (change.Fill ts) h = cc

  joined-parts : ShownMakes → (d : ℕ) (x : Tree) (us : List Tree) → changed c d x ≡ None → joined x (us ++ parts_rebuilt c d (inner d (kind_of x)) (subtrees x)) ≡ us ++ rebuilt c d x ∷ []
  joined-parts shown d x us h =
      let ps = parts_rebuilt c d (inner d (kind_of x)) (subtrees x) in
      let l = length-append us ps in
      let m = length-parts d (inner d (kind_of x)) (subtrees x) in
      let n : length (us ++ ps) - length (subtrees x) ≡ length us = omega (arith, l, m) in
      rw (n, take-append_seam us ps, drop-append_seam us ps) (ap (λ y. us ++ y ∷ []) (remade shown d x h))

  -- ---- tasks

  module _ (t : Tree) where
    finish-last : (ks : List Task) (k : Task) (us : List Tree) → finish c t (ks ++ k ∷ []) us ≡ finish c t ks (done c t k us)
    finish-last [] k us = refl
    finish-last (j ∷ ks) k us = ap (done c t j) (finish-last ks k us)

    fit-last : (ks : List Task) (k : Task) (us : List Tree) → AreFit c t (ks ++ k ∷ []) us → IsFit c t k us × AreFit c t ks (done c t k us)
    fit-last [] k us h = (h.0, tt)
    fit-last (j ∷ ks) k us h = let r = fit-last ks k us h.1 in (r.0, (subst (IsFit c t j) (finish-last ks k us) h.0, r.1))

    last-fit : (ks : List Task) (k : Task) (us : List Tree) → IsFit c t k us → AreFit c t ks (done c t k us) → AreFit c t (ks ++ k ∷ []) us
    last-fit [] k us here h = (here, tt)
    last-fit (j ∷ ks) k us here h = (subst (IsFit c t j) (sym (finish-last ks k us)) h.0, last-fit ks k us here h.1)

    pub builds-none : (ks : List Task) → Builds c t ks ks []
    builds-none ks = record {
      builds = λ vs. ap (finish c t ks) (sym (append-nil vs));
      fit = λ vs h. subst (AreFit c t ks) (append-nil vs) h;
    }

    -- one more part, before the others
    pub builds-visit : (old new : List Task) (us : List Tree) (i d : ℕ) → Builds c t old new us → i < length (rows_of t) → IsWellFormed (subtree t i) → Builds c t old (new ++ task.Visit i d ∷ []) (rebuilt c d (subtree t i) ∷ us)
    builds-visit old new us i d b inside formed =
        let r = rebuilt c d (subtree t i) in
        record {
          builds = λ vs. finish-last new (task.Visit i d) vs ∙ b.builds (vs ++ r ∷ []) ∙ ap (finish c t old) (append_assoc vs (r ∷ []) us);
          fit = λ vs h. last-fit new (task.Visit i d) vs (inside, formed) (b.fit (vs ++ r ∷ []) (subst (AreFit c t old) (sym (append_assoc vs (r ∷ []) us)) h));
        }

    -- the part k of the node n, under u binders, before those behind it
    pub part-waits : (n d e u i k m : ℕ) (old new more : List Task) → m ≡ suc k → k < length (subtrees (subtree t n)) → (m ≡ length (subtrees (subtree t n)) → u ≡ e) → (m < length (subtrees (subtree t n)) → u ≡ d)
        → n < length (rows_of t) → IsWellFormed (subtree t n) → i < n → subtree t i ≡ slice_index_or (subtrees (subtree t n)) k true_ → more ≡ new ++ task.Visit i u ∷ []
        → Builds c t old new (drop m (parts_rebuilt c d e (subtrees (subtree t n)))) → Builds c t old more (drop k (parts_rebuilt c d e (subtrees (subtree t n))))
    part-waits n d e u i k m old new more q l f g inside formed before s p b =
        let ts = subtrees (subtree t n) in
        let v = builds-visit old new (drop m (parts_rebuilt c d e ts)) i u b (omega (arith, before, inside)) (part_formed (subtree t n) (subtree t i) k formed l s) in
        subst (Builds c t old more) (ap (λ x. rebuilt c u x ∷ drop m (parts_rebuilt c d e ts)) s ∙ sym (drop-part d e u ts k m q l f g))
        (subst (λ js. Builds c t old js (rebuilt c u (subtree t i) ∷ drop m (parts_rebuilt c d e ts))) (sym p) v)

    -- ---- steps

    pub visit_next : (n : ℕ) (ks : List Task) (i d : ℕ) (us : List Tree) → Gives c t n (ks ++ task.Visit i d ∷ []) us → (i < length (rows_of t)) × IsWellFormed (subtree t i) × Gives c t n ks (us ++ rebuilt c d (subtree t i) ∷ [])
    visit_next n ks i d us g =
        let r = fit-last ks (task.Visit i d) us g.fit in
        (r.0.0, r.0.1, record { gives = sym (finish-last ks (task.Visit i d) us) ∙ g.gives; fit = r.1 })

    pub join_next : (n : ℕ) (ks : List Task) (i : ℕ) (us : List Tree) → Gives c t n (ks ++ task.Join i ∷ []) us → ((i < length (rows_of t)) × IsWellFormed (subtree t i) × (length (subtrees (subtree t i)) ≤ length us)) × Gives c t n ks (joined (subtree t i) us)
    join_next n ks i us g =
        let r = fit-last ks (task.Join i) us g.fit in
        (r.0, record { gives = sym (finish-last ks (task.Join i) us) ∙ g.gives; fit = r.1 })

    -- a leaf is rebuilt at once
    pub leaf_built : (n i d : ℕ) (ks : List Task) (us vs : List Tree) (leaf : Tree) → changed c d (subtree t i) ≡ Some leaf → vs ≡ us ++ leaf ∷ [] → Gives c t n ks (us ++ rebuilt c d (subtree t i) ∷ []) → Gives c t n ks vs
    leaf_built n i d ks us vs leaf h e g = subst (Gives c t n ks) (ap (λ x. us ++ x ∷ []) (leaf-is d (subtree t i) leaf h) ∙ sym e) g

    -- the parts of a node wait, and then a task that joins them
    pub parts_wait : ShownMakes → (n i d : ℕ) (ks ls : List Task) (us : List Tree) → i < length (rows_of t) → IsWellFormed (subtree t i) → changed c d (subtree t i) ≡ None
        → Builds c t (ks ++ task.Join i ∷ []) ls (parts_rebuilt c d (inner d (kind_of (subtree t i))) (subtrees (subtree t i)))
        → Gives c t n ks (us ++ rebuilt c d (subtree t i) ∷ []) → Gives c t n ls us
    parts_wait shown n i d ks ls us inside formed h b g =
        let x = subtree t i in
        let ps = parts_rebuilt c d (inner d (kind_of x)) (subtrees x) in
        let j = joined-parts shown d x us h in
        let l = length-append us ps in
        let m = length-parts d (inner d (kind_of x)) (subtrees x) in
        record {
          gives = b.builds us ∙ finish-last ks (task.Join i) (us ++ ps) ∙ ap (finish c t ks) j ∙ g.gives;
          fit = b.fit us (last-fit ks (task.Join i) (us ++ ps) (inside, formed, omega (arith, l, m)) (subst (AreFit c t ks) (sym j) g.fit));
        }
