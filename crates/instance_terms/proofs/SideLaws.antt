-- Whether a metavariable occurs in a term.
use Rattle.std.proofs.Common.{◌≡◌, ℕ, ◌+◌, ◌<◌, ◌≤◌, Bool, true, false, List, [], ◌∷◌, ◌++◌, length, get_or, take, drop, refl, ap, sym, ◌∙◌, Result, Ok, Err}
use Rattle.std.specs.Prelude.{IfOk}
use Rattle.std.proofs.lemmas.List.{take_more, take_all, take-append-drop}
use Rattle.core_expr.specs.declared.head.Sym.{Sym}
use Rattle.core_expr.specs.Tree.{Tree, Parts}
use Rattle.core_expr.specs.Tree.Tree.{bound, app, node, bind}
use Rattle.core_expr.specs.Tree.Parts.{end, part}
use Rattle.core_expr.specs.Terms.{same_sym}
use Rattle.core_expr.specs.Nodes.{canon_sym}
use Rattle.search_definition.specs.Terms.{either, occurs}
use Rattle.search_definition.specs.Instances.{has_no_parts, is_side}
use Rattle.unifier_definition.specs.Metas.{listed, has_meta, have_meta}
use Rattle.unify_meta.specs.Metas.{symbols}
use Rattle.unify_meta.proofs.MetaLaws.{symbols-append}
use Rattle.unify_meta.proofs.PutLaws.{select, has-occurs}

-- of two lists of metavariables
both : (a b : Bool) → select (either a b) true (either a b) ≡ either a b
both true b = refl
both false true = refl
both false false = refl

swap : (a b c d : Bool) → select (either a b) true (either c d) ≡ either (select a true c) (select b true d)
swap true b c d = refl
swap false true true d = refl
swap false true false d = refl
swap false false c d = refl

listed-append : (fs gs : List Sym) (f : Sym) → listed (fs ++ gs) f ≡ either (listed fs f) (listed gs f)
listed-append [] gs f = refl
listed-append (h ∷ fs) gs f = go (same_sym h f) (listed-append fs gs f)
  where
    go : (b : Bool) → listed (fs ++ gs) f ≡ either (listed fs f) (listed gs f) → select b true (listed (fs ++ gs) f) ≡ either (select b true (listed fs f)) (listed gs f)
    go true e = refl
    go false e = e

module _ (fs gs : List Sym) where
  mutual
    pub has-append : (e : Tree) → has_meta (fs ++ gs) e ≡ either (has_meta fs e) (has_meta gs e)
    has-append (bound i) = refl
    has-append (app f end) = listed-append fs gs f
    has-append (app f (part e ps)) = (λ i. select (has-append e i) true (have-append ps i)) ∙ swap (has_meta fs e) (has_meta gs e) (have_meta fs ps) (have_meta gs ps)
    has-append (node h ns ps) = have-append ps
    has-append (bind b ps e) = (λ i. select (have-append ps i) true (has-append e i)) ∙ swap (have_meta fs ps) (have_meta gs ps) (has_meta fs e) (has_meta gs e)

    pub have-append : (ps : Parts) → have_meta (fs ++ gs) ps ≡ either (have_meta fs ps) (have_meta gs ps)
    have-append end = refl
    have-append (part e ps) = (λ i. select (has-append e i) true (have-append ps i)) ∙ swap (has_meta fs e) (has_meta gs e) (have_meta fs ps) (have_meta gs ps)

mutual
  has-none : (e : Tree) → has_meta [] e ≡ false
  has-none (bound i) = refl
  has-none (app f end) = refl
  has-none (app f (part e ps)) = λ i. select (has-none e i) true (have-none ps i)
  has-none (node h ns ps) = have-none ps
  has-none (bind b ps e) = λ i. select (have-none ps i) true (has-none e i)

  have-none : (ps : Parts) → have_meta [] ps ≡ false
  have-none end = refl
  have-none (part e ps) = λ i. select (has-none e i) true (have-none ps i)

-- the loop
pub side_none : (ns : List ℕ) (e : Tree) → has_meta (symbols (take 0 ns)) e ≡ false
side_none ns e = has-none e

step : (ns : List ℕ) (k : ℕ) (e : Tree) → k < length ns → has_meta (symbols (take (k + 1) ns)) e ≡ either (has_meta (symbols (take k ns)) e) (occurs (app (canon_sym (get_or ns k 0) 0) end) e)
step ns k e l =
    ap (λ xs. has_meta (symbols xs) e) (take_more ns k 0 l) ∙ ap (λ fs. has_meta fs e) (symbols-append (take k ns) (get_or ns k 0 ∷ []))
    ∙ has-append (symbols (take k ns)) (canon_sym (get_or ns k 0) 0 ∷ []) e ∙ ap (either (has_meta (symbols (take k ns)) e)) (has-occurs (canon_sym (get_or ns k 0) 0) e)

pub side_more : (ns : List ℕ) (k : ℕ) (e s : Tree) (b : Bool) → k < length ns → s ≡ app (canon_sym (get_or ns k 0) 0) end → b ≡ occurs s e → b ≡ false → has_meta (symbols (take k ns)) e ≡ false → has_meta (symbols (take (k + 1) ns)) e ≡ false
side_more ns k e s b l es eb f h =
    step ns k e l ∙ (λ i. either (h i) ((ap (λ x. occurs x e) (sym es) ∙ sym eb ∙ f) i))

pub side_found : (ns : List ℕ) (k : ℕ) (e s : Tree) (b : Bool) → k < length ns → s ≡ app (canon_sym (get_or ns k 0) 0) end → b ≡ occurs s e → b ≡ true → true ≡ has_meta (symbols ns) e
side_found ns k e s b l es eb f =
    sym (ap (λ xs. has_meta (symbols xs) e) (sym (take-append-drop (k + 1) ns))
    ∙ ap (λ fs. has_meta fs e) (symbols-append (take (k + 1) ns) (drop (k + 1) ns))
    ∙ has-append (symbols (take (k + 1) ns)) (symbols (drop (k + 1) ns)) e
    ∙ ap (λ x. either x (has_meta (symbols (drop (k + 1) ns)) e)) (step ns k e l ∙ ap (either (has_meta (symbols (take k ns)) e)) (ap (λ x. occurs x e) (sym es) ∙ sym eb ∙ f) ∙ second (has_meta (symbols (take k ns)) e)))
  where
    second : (x : Bool) → either x true ≡ true
    second true = refl
    second false = refl

pub side_all : (ns : List ℕ) (k : ℕ) (e : Tree) → length ns ≤ k → has_meta (symbols (take k ns)) e ≡ false → false ≡ has_meta (symbols ns) e
side_all ns k e l h = sym (ap (λ xs. has_meta (symbols xs) e) (sym (take_all k ns l)) ∙ h)

-- a side
pub side_alone : (ms : List Sym) (l : Tree) (b : Bool) → b ≡ has_no_parts l → b ≡ true → false ≡ is_side ms l
side_alone ms (bound i) b e t = refl
side_alone ms (app f end) b e t = refl
side_alone ms (app f (part x ps)) b e t = cc
side_alone ms (node h ns end) b e t = refl
side_alone ms (node h ns (part x ps)) b e t = cc
side_alone ms (bind c ps x) b e t = cc

side-parts : (ms : List Sym) (l : Tree) (b : Bool) → b ≡ has_no_parts l → b ≡ false → has_meta ms l ≡ is_side ms l
side-parts ms (bound i) b e t = refl
side-parts ms (app f end) b e t = cc
side-parts ms (app f (part x ps)) b e t = refl
side-parts ms (node h ns ps) b e t = refl
side-parts ms (bind c ps x) b e t = refl

pub side_ok : {E : Type 0} (r : Result Bool E) (ms : List Sym) (l : Tree) (b : Bool) → b ≡ has_no_parts l → b ≡ false → IfOk r (λ x. x ≡ has_meta ms l) → IfOk r (λ x. x ≡ is_side ms l)
side_ok (Ok x) ms l b e t h = h ∙ side-parts ms l b e t
side_ok (Err z) ms l b e t h = h
