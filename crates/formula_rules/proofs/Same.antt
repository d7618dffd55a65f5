-- In a bank whose trees are distinct, equal trees have equal indices.
use Rattle.std.specs.Prelude.{IfSome, IfNone, IfOk}
use Rattle.std.proofs.Common.{◌≡◌, ℕ, zero, suc, [], ◌∷◌, ◌<◌, Bool, true, false, nat_eq, Option, Some, None, Result, Ok, Err, ◌-◌, List, length, get_or, ◌≤◌, refl, ap, sym, ◌∙◌, subst, arith}
use Rattle.std.proofs.lemmas.Bool.{eqb-true}
use Rattle.core_expr.specs.declared.head.Head.TheVariants.{Not}
use Rattle.core_expr.specs.Tree.{Tree, not_, eq_, fun_, apply_, tuple_, num_}
use Rattle.core_expr.specs.Tree.Tree.{node}
use Rattle.core_expr.specs.Tree.Parts.{part}
use Rattle.core_expr.specs.Heads.{parts_of}
use Rattle.core_expr.specs.Nodes.{AreBelow, picked}
use Rattle.seq_calculus.specs.Schemas.{nth}
use Rattle.core_expr.specs.Terms.{same}
use Rattle.core_expr.specs.Equal.{same-true, true-same, same-refl, nat-refl, nat-same}
use Rattle.term_bank.specs.Banks.{IsDistinct, HasTree, tree_at}
use Rattle.search_definition.specs.Terms.{if_so, when}
use Rattle.search_definition.specs.Branches.{is_not_of, is_mirror_not}
use Rattle.search_definition.specs.Equations.{is_fun, fun_of}
use Rattle.formula_rules.specs.Answers.{HasTerm, HasEquation, names}
use Rattle.formula_rules.specs.declared.rewriting.Equation.{Equation}
use Rattle.search_definition.specs.Plain.{nth_rewrite, rewrite_of}
use Rattle.formula_rules.proofs.Giving.{listed}

pub same_at : (ts : List Tree) (a g : ℕ) → IsDistinct ts → a < length ts → g < length ts → same (tree_at ts a) (tree_at ts g) ≡ nat_eq a g
same_at ts a g d la lg = go (nat_eq a g) refl
  where
    other : (b c : Bool) → same (tree_at ts a) (tree_at ts g) ≡ b → nat_eq a g ≡ false → b ≡ false
    other true c e n = absurd (no (sym n ∙ ap (nat_eq a) (sym (d a g la lg (same-true (tree_at ts a) (tree_at ts g) e))) ∙ nat-refl a))
      where
        no : false ≡ true → ⊥
        no e = cc
    other false c e n = refl

    go : (b : Bool) → nat_eq a g ≡ b → same (tree_at ts a) (tree_at ts g) ≡ b
    go true e = true-same (tree_at ts a) (tree_at ts g) (ap (tree_at ts) (eqb-true a g e))
    go false e = other (same (tree_at ts a) (tree_at ts g)) true refl e

-- a term, where two indices are one
when_same : (ts : List Tree) (a g k : ℕ) (t : Tree) → IsDistinct ts → a < length ts → g < length ts → HasTree ts k t → HasTerm ts (when (nat_eq a g) k) (when (same (tree_at ts a) (tree_at ts g)) t)
when_same ts a g k t d la lg h = subst (λ b. HasTerm ts (when (nat_eq a g) k) (when b t)) (sym (same_at ts a g d la lg)) (go (nat_eq a g))
  where
    go : (b : Bool) → HasTerm ts (when b k) (when b t)
    go true = h
    go false = tt

-- the function constructor of an equation whose right side is one
pub fun_right : (ts : List Tree) (g a b : ℕ) → IsDistinct ts → g < length ts → a < length ts → b < length ts → is_fun (tree_at ts b) ≡ true → HasTerm ts (when (nat_eq a g) b) (fun_of (tree_at ts g) (eq_ (tree_at ts a) (tree_at ts b)))
fun_right ts g a b d lg la lb w = go (tree_at ts b) refl w
  where
    go : (t : Tree) → tree_at ts b ≡ t → is_fun t ≡ true → HasTerm ts (when (nat_eq a g) b) (fun_of (tree_at ts g) (eq_ (tree_at ts a) t))
    go (fun_ s e) q w = when_same ts a g b (fun_ s e) d la lg (record { within = lb; tree = q })
    go _ q w = cc

-- and of one whose left side alone is one
pub fun_left : (ts : List Tree) (g a b : ℕ) → IsDistinct ts → g < length ts → a < length ts → b < length ts → is_fun (tree_at ts b) ≡ false → is_fun (tree_at ts a) ≡ true → HasTerm ts (when (nat_eq b g) a) (fun_of (tree_at ts g) (eq_ (tree_at ts a) (tree_at ts b)))
fun_left ts g a b d lg la lb v w = go (tree_at ts a) refl w
  where
    right : (s e t : Tree) → tree_at ts a ≡ fun_ s e → tree_at ts b ≡ t → is_fun t ≡ false → HasTerm ts (when (nat_eq b g) a) (fun_of (tree_at ts g) (eq_ (fun_ s e) t))
    right s e (fun_ r h) p q v = cc
    right s e _ p q v = subst (λ u. HasTerm ts (when (nat_eq b g) a) (when (same u (tree_at ts g)) (fun_ s e))) q (when_same ts b g a (fun_ s e) d lb lg (record { within = la; tree = p }))

    go : (t : Tree) → tree_at ts a ≡ t → is_fun t ≡ true → HasTerm ts (when (nat_eq b g) a) (fun_of (tree_at ts g) (eq_ t (tree_at ts b)))
    go (fun_ s e) p w = right s e (tree_at ts b) p refl v
    go _ p w = cc

-- tests that hold together are equal
both_tests : (x y : Bool) → (x ≡ true → y ≡ true) → (y ≡ true → x ≡ true) → x ≡ y
both_tests true y f g = sym (f refl)
both_tests false true f g = g refl
both_tests false false f g = refl

nat_eq-sym : (a b : ℕ) → nat_eq a b ≡ nat_eq b a
nat_eq-sym a b = both_tests (nat_eq a b) (nat_eq b a) (λ e. subst (λ c. nat_eq c a ≡ true) (nat-same a b e) (nat-refl a)) (λ e. subst (λ c. nat_eq c b ≡ true) (nat-same b a e) (nat-refl b))

-- the index that was sought is that of the tree
pub sought : (ts : List Tree) (r : Option ℕ) (t : Tree) → IsDistinct ts → IfSome r (λ k. HasTree ts k t) → IfNone r ((k : ℕ) → HasTree ts k t → ⊥) → (g : ℕ) → g < length ts → same (tree_at ts g) t ≡ names r g
sought ts (Some k) t d h n g l = ap (same (tree_at ts g)) (sym h.tree) ∙ same_at ts g k d l h.within
sought ts None t d h n g l = both_tests (same (tree_at ts g) t) false (λ e. absurd (n g (record { within = l; tree = same-true (tree_at ts g) t e }))) (λ e. cc)

made : (b : Bool) → b ≡ elim b [ true ↦ true | false ↦ false ]
made true = refl
made false = refl

no_two : (b : Bool) → false ≡ elim b [ true ↦ false | false ↦ false ]
no_two true = refl
no_two false = refl

-- a Not is known by the tree
pub not_of_same : (x f : Tree) → is_not_of x f ≡ same x (not_ f)
not_of_same (not_ a) f = made (same a f)
not_of_same (node Not [] (part a (part b ps))) f = no_two (same a f)
not_of_same _ f = refl

pub denied_same : (ts : List Tree) (f a g : ℕ) → IsDistinct ts → a < length ts → g < length ts → tree_at ts f ≡ not_ (tree_at ts a) → is_not_of (tree_at ts f) (tree_at ts g) ≡ nat_eq g a
denied_same ts f a g d la lg e = ap (λ t. is_not_of t (tree_at ts g)) e ∙ same_at ts a g d la lg ∙ nat_eq-sym a g

if_true : (x y : Bool) → if_so x y false ≡ true → (x ≡ true) × (y ≡ true)
if_true true y e = (refl, e)
if_true false y e = cc

-- the Not of a mirror is known by the tree
mirrors : (s t x : Tree) → is_mirror_not (eq_ s t) x ≡ true → x ≡ not_ (eq_ t s)
mirrors s t (not_ (eq_ u v)) e = let q = if_true (same s v) (same t u) e in λ i. not_ (eq_ (sym (same-true t u q.1) i) (sym (same-true s v q.0) i))
mirrors s t _ e = cc

mirrored : (s t : Tree) → is_mirror_not (eq_ s t) (not_ (eq_ t s)) ≡ true
mirrored s t = ap (λ b. if_so b (same t t) false) (same-refl s) ∙ same-refl t

pub mirror_same : (s t x : Tree) → is_mirror_not (eq_ s t) x ≡ same x (not_ (eq_ t s))
mirror_same s t x = both_tests (is_mirror_not (eq_ s t) x) (same x (not_ (eq_ t s))) (λ e. true-same x (not_ (eq_ t s)) (mirrors s t x e)) (λ e. subst (λ y. is_mirror_not (eq_ s t) y ≡ true) (sym (same-true x (not_ (eq_ t s)) e)) (mirrored s t))

-- what the Not of an equation mirrors is known by the tree
unmirrors : (u v x : Tree) → is_mirror_not x (not_ (eq_ u v)) ≡ true → x ≡ eq_ v u
unmirrors u v (eq_ s t) e = let q = if_true (same s v) (same t u) e in λ i. eq_ (same-true s v q.0 i) (same-true t u q.1 i)
unmirrors u v _ e = cc

pub unmirror_same : (u v x : Tree) → is_mirror_not x (not_ (eq_ u v)) ≡ same x (eq_ v u)
unmirror_same u v x = both_tests (is_mirror_not x (not_ (eq_ u v))) (same x (eq_ v u)) (λ e. true-same x (eq_ v u) (unmirrors u v x e)) (λ e. subst (λ y. is_mirror_not y (not_ (eq_ u v)) ≡ true) (sym (same-true x (eq_ v u) e)) (mirrored v u))

-- the part at a place
pub part_some : (ts : List Tree) (us : List Tree) (ps : List ℕ) (k p : ℕ) → us ≡ picked ts ps → AreBelow (length ts) ps → k < length ps → p ≡ get_or ps k 0 → HasTerm ts (Some p) (nth us k)
part_some ts us ps k p e b l q = subst (λ us. HasTerm ts (Some p) (nth us k)) (sym e) (go ps k b l q)
  where
    go : (ps : List ℕ) (k : ℕ) → AreBelow (length ts) ps → k < length ps → p ≡ get_or ps k 0 → HasTerm ts (Some p) (nth (picked ts ps) k)
    go [] k b l q = absurd (omega arith)
    go (i ∷ ps) zero b l q = record { within = subst (λ j. j < length ts) (sym q) b.0; tree = ap (tree_at ts) q }
    go (i ∷ ps) (suc k) b l q = go ps k b.1 (omega arith) q

pub part_none : (ts : List Tree) (us : List Tree) (ps : List ℕ) (k : ℕ) → us ≡ picked ts ps → length ps ≤ k → HasTerm ts None (nth us k)
part_none ts us ps k e l = subst (λ us. HasTerm ts None (nth us k)) (sym e) (go ps k l)
  where
    go : (ps : List ℕ) (k : ℕ) → length ps ≤ k → HasTerm ts None (nth (picked ts ps) k)
    go [] k l = tt
    go (i ∷ ps) zero l = absurd (omega arith)
    go (i ∷ ps) (suc k) l = go ps k (omega arith)

pub mirror_made : {E : Type 0} (ts : List Tree) (r : Result ℕ E) (s t : Tree) → IsDistinct ts → IfOk r (λ k. HasTree ts k (not_ (eq_ t s))) → IfOk r (λ k. (g : ℕ) → g < length ts → is_mirror_not (eq_ s t) (tree_at ts g) ≡ nat_eq g k)
mirror_made ts (Err e) s t d h = tt
mirror_made ts (Ok k) s t d h = λ g l. mirror_same s t (tree_at ts g) ∙ sought ts (Some k) (not_ (eq_ t s)) d h tt g l

-- the equation of an entry of a tuple
abbrev pub entry_of : ℕ → Option ℕ → Option Equation
entry_of t None = None
entry_of t (Some p) = Some (record { schema = 21; from = t; to = p })

pub entry_equation : (ts : List Tree) (t k : ℕ) (us : List Tree) (x : Tree) (r : Option ℕ) → x ≡ apply_ (tuple_ (parts_of us)) (num_ 0 k) → (k ≡ 0 → ⊥) → HasTree ts t x → HasTerm ts r (nth us (k - 1)) → HasEquation ts (entry_of t r) (rewrite_of x)
entry_equation ts t zero us x r e n h m = absurd (n refl)
entry_equation ts t (suc i) us x r e n h m =
    let q : suc i - 1 ≡ i = omega arith in
    let m' : HasTerm ts r (nth us i) = subst (λ j. HasTerm ts r (nth us j)) q m in
    let h' : HasTree ts t (apply_ (tuple_ (parts_of us)) (num_ 0 (suc i))) = record { within = h.within; tree = h.tree ∙ e } in
    subst (λ y. HasEquation ts (entry_of t r) (rewrite_of y)) (sym e) (subst (λ vs. HasEquation ts (entry_of t r) (nth_rewrite (parts_of us) (suc i) (nth vs i))) (sym (listed us)) (go r (nth us i) m' h'))
  where
    go : (r : Option ℕ) (o : Option Tree) → HasTerm ts r o → HasTree ts t (apply_ (tuple_ (parts_of us)) (num_ 0 (suc i))) → HasEquation ts (entry_of t r) (nth_rewrite (parts_of us) (suc i) o)
    go None None m h = tt
    go None (Some a) m h = m
    go (Some p) None m h = m
    go (Some p) (Some a) m h = record { schema = refl; from = h; to = m }
