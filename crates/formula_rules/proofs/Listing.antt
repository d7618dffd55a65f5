-- Lists of trees that are put into a bank one by one.
use Rattle.std.proofs.Common.{◌≡◌, ℕ, zero, suc, ◌+◌, ◌<◌, List, [], ◌∷◌, ◌++◌, length, drop, get_or, refl, ap, sym, ◌∙◌, arith, append_assoc, append-nil, subst, true}
use Rattle.std.proofs.lemmas.List.{drop_more, length_push}
use Rattle.core_expr.specs.Tree.{Tree, eq_}
use Rattle.core_expr.specs.Nodes.{AreBelow, picked}
use Rattle.seq_calculus.specs.Schemas.{equals_each, equal_pairs}
use Rattle.term_bank.specs.Banks.{Extends, HasTree, tree_at}
use Rattle.term_bank.proofs.TableLaws.{AreBelow-more, AreBelow-at, length-picked}
use Rattle.term_bank.proofs.InternLaws.{picked-append, AreBelow-append}
use Rattle.term_shapes.specs.Shapes.{tree_of}
use Rattle.term_shapes.specs.declared.shape.Shape.{Shape}
use Rattle.term_shapes.specs.Forms.{ArePlaced, are_below, grown}
use Rattle.term_shapes.proofs.FormLaws.{are-below, picked-at}
use Rattle.formula_rules.specs.Answers.{gathered, trees_at}
use Rattle.term_shapes.proofs.Extending.{longer, picked-same, tree-extend, below-extend}

-- these trees stand at the indices, and the others complete the whole list
pub record IsListing (ts : List Tree) (is : List ℕ) (left whole : List Tree) : Type 0 where
  pub below : AreBelow (length ts) is
  pub trees : picked ts is ++ left ≡ whole

pub listing_step : (ts ts' : List Tree) (is is' : List ℕ) (k : ℕ) (t : Tree) (left whole : List Tree) → Extends ts ts' → IsListing ts is (t ∷ left) whole → HasTree ts' k t → is' ≡ is ++ k ∷ [] → IsListing ts' is' left whole
listing_step ts ts' is is' k t left whole x a h e =
    rw e (record {
      below = AreBelow-append (length ts') is (k ∷ []) (AreBelow-more (length ts) (length ts') is (longer ts ts' x) a.below) (h.within, tt);
      trees = ap (λ us. us ++ left) (picked-append ts' is (k ∷ []) ∙ (λ i. picked-same ts ts' is x a.below i ++ h.tree i ∷ [])) ∙ append_assoc (picked ts is) (t ∷ []) left ∙ a.trees;
    })

pub listing_ends : (ts : List Tree) (is : List ℕ) (whole : List Tree) → IsListing ts is [] whole → ArePlaced ts whole is
listing_ends ts is whole a = record { below = a.below; trees = sym (append-nil (picked ts is)) ∙ a.trees }

pub picked_drop : (ts : List Tree) (is : List ℕ) (i : ℕ) → i < length is → picked ts (drop i is) ≡ tree_at ts (get_or is i 0) ∷ picked ts (drop (i + 1) is)
picked_drop ts is i l = ap (picked ts) (drop_more is i 0 l)

-- one equation more
each_next : (ts : List Tree) (t : Tree) (is : List ℕ) (i : ℕ) → i < length is → equals_each t (picked ts (drop i is)) ≡ eq_ t (tree_at ts (get_or is i 0)) ∷ equals_each t (picked ts (drop (i + 1) is))
each_next ts t is i l = ap (equals_each t) (picked_drop ts is i l)

pairs_next : (ts : List Tree) (ls rs : List ℕ) (i : ℕ) → i < length ls → i < length rs → equal_pairs (picked ts (drop i ls)) (picked ts (drop i rs)) ≡ eq_ (tree_at ts (get_or ls i 0)) (tree_at ts (get_or rs i 0)) ∷ equal_pairs (picked ts (drop (i + 1) ls)) (picked ts (drop (i + 1) rs))
pairs_next ts ls rs i l m = λ k. equal_pairs (picked_drop ts ls i l k) (picked_drop ts rs i m k)

pub each_step : (ts0 ts ts' : List Tree) (t i k : ℕ) (is v v' : List ℕ) (whole : List Tree) → Extends ts0 ts → t < length ts0 → AreBelow (length ts0) is → i < length is → Extends ts ts' → IsListing ts v (equals_each (tree_at ts0 t) (picked ts0 (drop i is))) whole → HasTree ts' k (eq_ (tree_at ts t) (tree_at ts (get_or is i 0))) → v' ≡ v ++ k ∷ [] → IsListing ts' v' (equals_each (tree_at ts0 t) (picked ts0 (drop (i + 1) is))) whole
each_step ts0 ts ts' t i k is v v' whole x0 lt b l x a h e =
    let a' : IsListing ts v (eq_ (tree_at ts0 t) (tree_at ts0 (get_or is i 0)) ∷ equals_each (tree_at ts0 t) (picked ts0 (drop (i + 1) is))) whole = subst (λ us. IsListing ts v us whole) (each_next ts0 (tree_at ts0 t) is i l) a in
    let q : eq_ (tree_at ts t) (tree_at ts (get_or is i 0)) ≡ eq_ (tree_at ts0 t) (tree_at ts0 (get_or is i 0)) = λ j. eq_ (tree-extend ts0 ts t x0 lt j) (tree-extend ts0 ts (get_or is i 0) x0 (AreBelow-at (length ts0) is i b l) j) in
    listing_step ts ts' v v' k _ _ whole x a' (subst (HasTree ts' k) q h) e

pub pairs_step : (ts0 ts ts' : List Tree) (i k : ℕ) (ls rs v v' : List ℕ) (whole : List Tree) → Extends ts0 ts → AreBelow (length ts0) ls → AreBelow (length ts0) rs → i < length ls → i < length rs → Extends ts ts' → IsListing ts v (equal_pairs (picked ts0 (drop i ls)) (picked ts0 (drop i rs))) whole → HasTree ts' k (eq_ (tree_at ts (get_or ls i 0)) (tree_at ts (get_or rs i 0))) → v' ≡ v ++ k ∷ [] → IsListing ts' v' (equal_pairs (picked ts0 (drop (i + 1) ls)) (picked ts0 (drop (i + 1) rs))) whole
pairs_step ts0 ts ts' i k ls rs v v' whole x0 bl br l m x a h e =
    let a' : IsListing ts v (eq_ (tree_at ts0 (get_or ls i 0)) (tree_at ts0 (get_or rs i 0)) ∷ equal_pairs (picked ts0 (drop (i + 1) ls)) (picked ts0 (drop (i + 1) rs))) whole = subst (λ us. IsListing ts v us whole) (pairs_next ts0 ls rs i l m) a in
    let q : eq_ (tree_at ts (get_or ls i 0)) (tree_at ts (get_or rs i 0)) ≡ eq_ (tree_at ts0 (get_or ls i 0)) (tree_at ts0 (get_or rs i 0)) = λ j. eq_ (tree-extend ts0 ts (get_or ls i 0) x0 (AreBelow-at (length ts0) ls i bl l) j) (tree-extend ts0 ts (get_or rs i 0) x0 (AreBelow-at (length ts0) rs i br m) j) in
    listing_step ts ts' v v' k _ _ whole x a' (subst (HasTree ts' k) q h) e

pub item_below : (ts ts' : List Tree) (is : List ℕ) (i : ℕ) → Extends ts ts' → AreBelow (length ts) is → i < length is → get_or is i 0 < length ts'
item_below ts ts' is i x b l = below-extend ts ts' (get_or is i 0) x (AreBelow-at (length ts) is i b l)

-- the trees at places of a table
pub placed_below : (ts table : List Tree) (places : List ℕ) (n : ℕ) (at : List ℕ) → ArePlaced ts table places → length table ≡ n → are_below n at ≡ true → AreBelow (length places) at
placed_below ts table places n at a e w = subst (λ m. AreBelow m at) (sym e ∙ ap length (sym a.trees) ∙ length-picked ts places) (are-below n at w)

length-grown : (ts : List Tree) (ss : List Shape) → length (grown ts ss) ≡ length ts + length ss
length-grown ts [] = omega arith
length-grown ts (s ∷ ss) = omega (arith, length-grown (ts ++ tree_of ts s ∷ []) ss, length_push ts (tree_of ts s))

pub length-table : (ts : List Tree) (is : List ℕ) (ss : List Shape) → length (grown (picked ts is) ss) ≡ length is + length ss
length-table ts is ss = length-grown (picked ts is) ss ∙ ap (λ n. n + length ss) (length-picked ts is)

pub gathered_trees : (ts table : List Tree) (places at : List ℕ) → ArePlaced ts table places → AreBelow (length places) at → trees_at ts (gathered places at) ≡ trees_at table at
gathered_trees ts table places [] a b = refl
gathered_trees ts table places (i ∷ at) a b = λ k. (picked-at ts places i b.0 ∙ ap (λ us. tree_at us i) a.trees) k ∷ gathered_trees ts table places at a b.1 k

pub gathered_below : (n : ℕ) (places at : List ℕ) → AreBelow n places → AreBelow (length places) at → AreBelow n (gathered places at)
gathered_below n places [] a b = tt
gathered_below n places (i ∷ at) a b = (AreBelow-at n places i a b.0, gathered_below n places at a b.1)

pub below_drop : (n k : ℕ) (is : List ℕ) → AreBelow n is → AreBelow n (drop k is)
below_drop n zero is b = b
below_drop n (suc k) [] b = tt
below_drop n (suc k) (i ∷ is) b = below_drop n k is b.1
