-- Left sides by numbers.
use Rattle.std.specs.Prelude.{◌≡◌, ℕ, ◌<◌, ◌≤◌, suc, Option, Some, None, List, [], ◌∷◌, ◌++◌, length}
use Rattle.std.proofs.Common.{get_or, refl, ap, sym, ◌∙◌, subst, arith}
use Rattle.core_expr.specs.Tree.{Tree, size, true_, eq_, tuple_}
use Rattle.core_expr.specs.Heads.{parts_of, subtrees}
use Rattle.core_expr.specs.Nodes.{AreBelow, picked}
use Rattle.search_definition.specs.Terms.{list_of}
use Rattle.search_definition.specs.Plain.{left_side}
use Rattle.search_definition.specs.Equations.{right_or}
use Rattle.seq_calculus.specs.Calculus.{Proof}
use Rattle.search_definition.specs.Plain.{Left}
use Rattle.proof_writer.specs.Written.{Written, count, tree_at}
use Rattle.proof_writer.specs.Shapes.{iff_left, iff_not}
use Rattle.proof_trees.specs.Simple.{by_left, by_not_left}
use Rattle.proof_trees.specs.Equated.{iff_back, left_back}
use Rattle.rule_proofs.specs.declared.left.LeftSide.{LeftSide}
use Rattle.rule_proofs.specs.Lefts.{IsLeft, IsRight, left_of}

pub over_left : (ts : List Tree) (l : LeftSide) (m : Option Left) (f r : Tree) (p : Proof) → IsLeft ts (Some l) m → IsRight m r → by_left f m p ≡ iff_left l.schema l.z (picked ts l.params) f r p
over_left ts l None f r p h e = absurd h
over_left ts l (Some m) f r p h e = λ i. iff_left (sym h.0 i) (sym h.1 i) (sym h.2 i) f (e i) p

pub over_none : (ts : List Tree) (m : Option Left) (f : Tree) (p : Proof) → IsLeft ts None m → by_left f m p ≡ p
over_none ts None f p h = refl
over_none ts (Some m) f p h = absurd h

pub not_left : (ts : List Tree) (l : LeftSide) (m : Option Left) (f r : Tree) (p : Proof) → IsLeft ts (Some l) m → IsRight m r → by_not_left f m p ≡ iff_not l.schema l.z (picked ts l.params) f r p
not_left ts l None f r p h e = absurd h
not_left ts l (Some m) f r p h e = λ i. iff_not (sym h.0 i) (sym h.1 i) (sym h.2 i) f (e i) p

pub not_none : (ts : List Tree) (m : Option Left) (f : Tree) (p : Proof) → IsLeft ts None m → by_not_left f m p ≡ p
not_none ts None f p h = refl
not_none ts (Some m) f p h = absurd h

pub back_left : (ts : List Tree) (l : LeftSide) (m : Option Left) (f r : Tree) (p : Proof) → IsLeft ts (Some l) m → IsRight m r → left_back f m p ≡ iff_back l.schema l.z (picked ts l.params) f r p
back_left ts l None f r p h e = absurd h
back_left ts l (Some m) f r p h e = λ i. iff_back (sym h.0 i) (sym h.1 i) (sym h.2 i) f (e i) p

pub back_none : (ts : List Tree) (m : Option Left) (f : Tree) (p : Proof) → IsLeft ts None m → left_back f m p ≡ p
back_none ts None f p h = refl
back_none ts (Some m) f p h = absurd h

list-parts : (ts : List Tree) → list_of (parts_of ts) ≡ ts
list-parts [] = refl
list-parts (t ∷ ts) = ap (λ l. t ∷ l) (list-parts ts)

size-picked : (ts : List Tree) (is : List ℕ) → size (parts_of (picked ts is)) ≡ length is
size-picked ts [] = refl
size-picked ts (i ∷ is) = ap suc (size-picked ts is)

picked-both : (ts : List Tree) (is js : List ℕ) → picked ts (is ++ js) ≡ picked ts is ++ picked ts js
picked-both ts [] js = refl
picked-both ts (i ∷ is) js = ap (λ l. get_or ts i true_ ∷ l) (picked-both ts is js)

-- two tuples with the parts of these numbers
pub tuples_left : (ts : List Tree) (x y : Tree) (is js : List ℕ) (n : ℕ) → x ≡ tuple_ (parts_of (subtrees x)) → y ≡ tuple_ (parts_of (subtrees y)) → subtrees x ≡ picked ts is → subtrees y ≡ picked ts js → n ≡ length is
    → IsLeft ts (left_of 20 n (is ++ js)) (left_side (eq_ x y))
tuples_left ts x y is js n ex ey px py e =
    subst (λ z. IsLeft ts (left_of 20 n (is ++ js)) (left_side z)) (λ i. eq_ (sym (ex ∙ ap (λ l. tuple_ (parts_of l)) px) i) (sym (ey ∙ ap (λ l. tuple_ (parts_of l)) py) i))
    (refl, e ∙ sym (size-picked ts is), picked-both ts is js ∙ (λ i. sym (list-parts (picked ts is)) i ++ sym (list-parts (picked ts js)) i))

pub both_below : (n : ℕ) (is js : List ℕ) → AreBelow n is → AreBelow n js → AreBelow n (is ++ js)
both_below n [] js h k = k
both_below n (i ∷ is) js h k = (h.0, both_below n is js h.1 k)

-- the right side of a schema, or the formula itself
pub right_is : (f t : Tree) (o : Option Left) → t ≡ right_or f o → IsRight o t
right_is f t None e = tt
right_is f t (Some l) e = sym e

-- numbers below a count are below a greater one, and their trees stay where all trees do
pub below_wider : (m n : ℕ) (is : List ℕ) → m ≤ n → AreBelow m is → AreBelow n is
below_wider m n [] e h = tt
below_wider m n (i ∷ is) e h = (omega (arith, h.0), below_wider m n is e h.1)

pub picked_same : (v w : Written) (is : List ℕ) → AreBelow (count v) is → ((i : ℕ) → i < count v → tree_at w i ≡ tree_at v i) → picked w.trees is ≡ picked v.trees is
picked_same v w [] h k = refl
picked_same v w (i ∷ is) h k = λ j. k i h.0 j ∷ picked_same v w is h.1 k j
