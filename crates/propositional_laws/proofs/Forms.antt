-- Propositional formulas: the tests, closedness, subterms, weights; lists of them.
use Rattle.std.specs.Prelude.{◌≡◌, ℕ, ◌+◌, ◌≤◌, Bool, true, false, List, [], ◌∷◌, ◌++◌}
use Rattle.std.proofs.Common.{refl, arith, subst, inl, inr}
use Rattle.std.proofs.lemmas.Bool.{and_parts}
use Rattle.core_expr.specs.Tree.{Tree, true_, false_, not_, and_, or_, imp_, iff_}
use Rattle.core_expr.specs.Tree.Tree.{app}
use Rattle.core_expr.specs.Tree.Parts.{end}
use Rattle.core_expr.specs.Terms.{is_scoped}
use Rattle.seq_calculus.specs.Calculus.{Has, IsClosed, AllClosed}
use Rattle.valuation.specs.Truth.{both, is_propositional, are_propositional}
use Rattle.search_definition.specs.Terms.{if_so, where_closed, subterms_before, closed_subterms}
use Rattle.search_definition.proofs.Standing.{Each}
use Rattle.propositional_laws.specs.Formulas.{Formula, Formulas, connectives}
use Rattle.propositional_laws.specs.Formulas.Formula.{f_true, f_false, f_symbol, f_not, f_and, f_or, f_imp, f_iff}
use Rattle.propositional_laws.specs.Laws.{TestsFormulas, FormsAreFormulas}

-- both tests hold
pub both-split : (x y : Bool) → both x y ≡ true → (x ≡ true) × (y ≡ true)
both-split true y h = (refl, h)
both-split false y h = cc

pub both-hold : (x y : Bool) → x ≡ true → y ≡ true → both x y ≡ true
both-hold true y h k = k
both-hold false y h k = cc

formula : (f : Tree) → is_propositional f ≡ true → Formula f
formula true_ h = f_true
formula false_ h = f_false
formula (app s end) h = f_symbol s
formula (not_ a) h = f_not (formula a h)
formula (and_ a b) h = let k = both-split (is_propositional a) (is_propositional b) h in f_and (formula a k.0) (formula b k.1)
formula (or_ a b) h = let k = both-split (is_propositional a) (is_propositional b) h in f_or (formula a k.0) (formula b k.1)
formula (imp_ a b) h = let k = both-split (is_propositional a) (is_propositional b) h in f_imp (formula a k.0) (formula b k.1)
formula (iff_ a b) h = let k = both-split (is_propositional a) (is_propositional b) h in f_iff (formula a k.0) (formula b k.1)
formula _ h = cc

tested : (f : Tree) → Formula f → is_propositional f ≡ true
tested _ f_true = refl
tested _ f_false = refl
tested _ (f_symbol s) = refl
tested _ (f_not {a} p) = tested a p
tested _ (f_and {a} {b} p q) = both-hold (is_propositional a) (is_propositional b) (tested a p) (tested b q)
tested _ (f_or {a} {b} p q) = both-hold (is_propositional a) (is_propositional b) (tested a p) (tested b q)
tested _ (f_imp {a} {b} p q) = both-hold (is_propositional a) (is_propositional b) (tested a p) (tested b q)
tested _ (f_iff {a} {b} p q) = both-hold (is_propositional a) (is_propositional b) (tested a p) (tested b q)

formulas : (fs : List Tree) → are_propositional fs ≡ true → Formulas fs
formulas [] h = tt
formulas (f ∷ fs) h = let k = both-split (is_propositional f) (are_propositional fs) h in (formula f k.0, formulas fs k.1)

all-tested : (fs : List Tree) → Formulas fs → are_propositional fs ≡ true
all-tested [] h = refl
all-tested (f ∷ fs) h = both-hold (is_propositional f) (are_propositional fs) (tested f h.0) (all-tested fs h.1)

pub tests : TestsFormulas
tests = ((λ f. (formula f, tested f)), λ fs. (formulas fs, all-tested fs))

pub formed : FormsAreFormulas
formed c p = let k = and_parts (are_propositional c.facts) (is_propositional c.goal) p in (formulas c.facts k.0, formula c.goal k.1)

closed : (f : Tree) → Formula f → IsClosed f
closed _ f_true = tt
closed _ f_false = tt
closed _ (f_symbol s) = tt
closed _ (f_not {a} p) = (closed a p, tt)
closed _ (f_and {a} {b} p q) = (closed a p, (closed b q, tt))
closed _ (f_or {a} {b} p q) = (closed a p, (closed b q, tt))
closed _ (f_imp {a} {b} p q) = (closed a p, (closed b q, tt))
closed _ (f_iff {a} {b} p q) = (closed a p, (closed b q, tt))

pub all-closed : (fs : List Tree) → Formulas fs → AllClosed fs
all-closed [] h = tt
all-closed (f ∷ fs) h = (closed f h.0, all-closed fs h.1)

-- what holds of each element
pub each-at : (P : Tree → Type 0) (fs : List Tree) (f : Tree) → Each P fs → Has fs f → P f
each-at P [] f h k = absurd k
each-at P (g ∷ fs) f h (inl e) = subst P e h.0
each-at P (g ∷ fs) f h (inr k) = each-at P fs f h.1 k

pub each-append : {A : Type 0} (P : A → Type 0) (xs ys : List A) → Each P xs → Each P ys → Each P (xs ++ ys)
each-append P [] ys h k = k
each-append P (x ∷ xs) ys h k = (h.0, each-append P xs ys h.1 k)

pub each-map : {A : Type 0} (P Q : A → Type 0) → ((x : A) → P x → Q x) → (xs : List A) → Each P xs → Each Q xs
each-map P Q f [] h = tt
each-map P Q f (x ∷ xs) h = (f x h.0, each-map P Q f xs h.1)

-- the subterms of a formula are formulas
where-formed : (f : Tree) (rest : List Tree) → Formula f → Formulas rest → Formulas (where_closed f rest)
where-formed f rest p h = go (is_scoped 0 f)
  where
    go : (x : Bool) → Formulas (if_so x (f ∷ rest) rest)
    go true = (p, h)
    go false = h

before-formed : (f : Tree) → Formula f → (rest : List Tree) → Formulas rest → Formulas (subterms_before f rest)
before-formed _ f_true rest h = where-formed true_ rest f_true h
before-formed _ f_false rest h = where-formed false_ rest f_false h
before-formed _ (f_symbol s) rest h = where-formed (app s end) rest (f_symbol s) h
before-formed _ (f_not {a} p) rest h = where-formed (not_ a) (subterms_before a rest) (f_not p) (before-formed a p rest h)
before-formed _ (f_and {a} {b} p q) rest h = where-formed (and_ a b) (subterms_before a (subterms_before b rest)) (f_and p q) (before-formed a p (subterms_before b rest) (before-formed b q rest h))
before-formed _ (f_or {a} {b} p q) rest h = where-formed (or_ a b) (subterms_before a (subterms_before b rest)) (f_or p q) (before-formed a p (subterms_before b rest) (before-formed b q rest h))
before-formed _ (f_imp {a} {b} p q) rest h = where-formed (imp_ a b) (subterms_before a (subterms_before b rest)) (f_imp p q) (before-formed a p (subterms_before b rest) (before-formed b q rest h))
before-formed _ (f_iff {a} {b} p q) rest h = where-formed (iff_ a b) (subterms_before a (subterms_before b rest)) (f_iff p q) (before-formed a p (subterms_before b rest) (before-formed b q rest h))

pub subterms-formed : (f : Tree) → Formula f → Formulas (closed_subterms f)
subterms-formed f p = before-formed f p [] tt

-- the connectives of a formula, without a Not on top
abbrev pub weight : Tree → ℕ
weight (not_ a) = connectives a
weight f = connectives f

pub weight-le : (f : Tree) → weight f ≤ connectives f
weight-le (not_ a) = omega arith
weight-le _ = omega arith

abbrev pub weights : List Tree → ℕ
weights [] = 0
weights (f ∷ fs) = weight f + weights fs
