-- Values of sides, and what they settle.
use Rattle.std.proofs.Common.{◌≡◌, ℕ, ◌+◌, ◌-◌, ◌<◌, ◌≤◌, true, false, Option, Some, None, List, [], ◌∷◌, length, get_or, drop, refl, ap, sym, ◌∙◌, subst, arith, Vec, Global}
use Rattle.std.proofs.lemmas.List.{drop_more, drop_all}
use Rattle.core_expr.specs.Tree.{Tree}
use Rattle.core_expr.specs.Nodes.{AreBelow}
use Rattle.term_bank.specs.Banks.{tree_at, Extends}
use Rattle.term_bank.proofs.TableLaws.{AreBelow-at, AreBelow-more}
use Rattle.term_shapes.proofs.Extending.{tree-extend, longer, below-extend}
use Rattle.search_definition.specs.declared.rule.Rule.{Rule}
use Rattle.search_definition.specs.Terms.{if_so, either, after}
use Rattle.search_definition.specs.Branches.{Branch}
use Rattle.search_definition.specs.Values.{truth, grounds, is_yes, is_no, all_yes, some_no, first_no}
use Rattle.search_definition.specs.Rules.{Step, gives}
use Rattle.search_definition.specs.Splits.{Splitting, splitting, settle_split, settle}
use Rattle.formula_rules.specs.declared.given.Given.{Given}
use Rattle.formula_rules.specs.declared.given.Sides.TheVariants.{Alone as One}
use Rattle.formula_rules.specs.declared.parting.Parting.{Parting}
use Rattle.formula_rules.specs.Answers.{trees_at, HasAnswer, HasPartings, splitting_of, alone_step, parted}
use Rattle.branch_values.specs.declared.value.Value.{Value}
use Rattle.branch_values.specs.declared.value.Value.TheVariants as value
use Rattle.value_ranks.specs.declared.side.Side.{Side}
use Rattle.branch_values.specs.Judging.{truth_of}
use Rattle.value_ranks.specs.Sides.{IsFirstNo, IsSide, side_with}
use Rattle.formula_rules.proofs.Giving.{trees_kept}

-- the first false formula is a later one, where the first is not false
first_later : (ts : List Tree) (b : Branch) (t : Tree) (fs : List Tree) (o : Option ℕ) → is_no (truth b t) ≡ false → IsFirstNo ts b fs o → IsFirstNo ts b (t ∷ fs) o
first_later ts b t fs None e h = ap (λ x. either x (some_no (truth b) fs)) e ∙ h
first_later ts b t fs (Some k) e h = (ap (λ x. either x (some_no (truth b) fs)) e ∙ h.0, h.1, ap (λ x. if_so x (grounds b t) (first_no b fs)) e ∙ h.2)

side_more : (ts : List Tree) (b : Branch) (t : Tree) (f : ℕ) (fs : List Tree) (v : Value) (s : Side) → tree_at ts f ≡ t → f < length ts → truth_of v ≡ truth b t → IsSide ts b fs s → IsSide ts b (t ∷ fs) (side_with s f v)
side_more ts b t f fs value.Yes s et l e h =
    record { all = ap (λ x. if_so (is_yes x) (all_yes (truth b) fs) false) (sym e) ∙ h.all; first = first_later ts b t fs s.first_false (ap is_no (sym e)) h.first }
side_more ts b t f fs value.No s et l e h =
    record {
      all = ap (λ x. if_so (is_yes x) (all_yes (truth b) fs) false) (sym e);
      first = (ap (λ x. either (is_no x) (some_no (truth b) fs)) (sym e), l, ap (λ x. if_so (is_no x) (grounds b t) (first_no b fs)) (sym e) ∙ ap (grounds b) (sym et));
    }
side_more ts b t f fs value.Unknown s et l e h =
    record { all = ap (λ x. if_so (is_yes x) (all_yes (truth b) fs) false) (sym e); first = first_later ts b t fs s.first_false (ap is_no (sym e)) h.first }

first_kept : (ts us : List Tree) (b : Branch) (fs : List Tree) (o : Option ℕ) → Extends ts us → IsFirstNo ts b fs o → IsFirstNo us b fs o
first_kept ts us b fs None x h = h
first_kept ts us b fs (Some k) x h = (h.0, below-extend ts us k x h.1, h.2 ∙ ap (grounds b) (sym (tree-extend ts us k x h.1)))

-- in a bank that grows
pub side_kept : (ts us : List Tree) (b c : Branch) (fs gs : List Tree) (s : Side) → Extends ts us → b ≡ c → fs ≡ gs → IsSide ts b fs s → IsSide us c gs s
side_kept ts us b c fs gs s x eb ef h = subst (λ a. IsSide us a gs s) eb (subst (λ zs. IsSide us b zs s) ef (record { all = h.all; first = first_kept ts us b fs s.first_false x h.first }))

pub side_turn : (ts us vs : List Tree) (b c : Branch) (list : List ℕ) (k f : ℕ) (v : Value) (s r : Side) → Extends ts us → Extends us vs → c ≡ b → AreBelow (length ts) list → k < length list → f ≡ get_or list (length list - 1 - k) 0
    → truth_of v ≡ truth c (tree_at us f) → r ≡ side_with s f v → IsSide us b (trees_at ts (drop (length list - k) list)) s → IsSide vs b (trees_at ts (drop (length list - (k + 1)) list)) r
side_turn ts us vs b c list k f v s r x y eb a l ef ev er h =
    subst (λ fs. IsSide vs b fs r) (sym whole) (subst (IsSide vs b (tree_at ts f ∷ later)) (sym er) (side_kept us vs b b (tree_at ts f ∷ later) (tree_at ts f ∷ later) (side_with s f v) y refl refl
    (side_more us b (tree_at ts f) f later v s kept (below-extend ts us f x below) (ev ∙ (λ j. truth (eb j) (kept j))) (subst (λ fs. IsSide us b fs s) rest h))))
  where
    m : ℕ
    m = length list - 1 - k

    later : List Tree
    later = trees_at ts (drop (m + 1) list)

    below : f < length ts
    below = subst (λ j. j < length ts) (sym ef) (AreBelow-at (length ts) list m a (omega (arith, l)))

    kept : tree_at us f ≡ tree_at ts f
    kept = tree-extend ts us f x below

    rest : trees_at ts (drop (length list - k) list) ≡ later
    rest = ap (λ j. trees_at ts (drop j list)) (let z : length list - k ≡ m + 1 = omega (arith, l) in z)

    whole : trees_at ts (drop (length list - (k + 1)) list) ≡ tree_at ts f ∷ later
    whole = ap (λ j. trees_at ts (drop j list)) (let z : length list - (k + 1) ≡ m = omega (arith, l) in z) ∙ ap (trees_at ts) (drop_more list m 0 (omega (arith, l))) ∙ ap (λ j. tree_at ts j ∷ later) (sym ef)

pub side_all : (ts : List Tree) (us : List Tree) (b : Branch) (list : List ℕ) (k : ℕ) (s : Side) → length list ≤ k → IsSide us b (trees_at ts (drop (length list - k) list)) s → IsSide us b (trees_at ts list) s
side_all ts us b list k s l h = let e : length list - k ≡ 0 = omega arith in subst (λ j. IsSide us b (trees_at ts (drop j list)) s) e h

-- the answer of a false side
pub false_given : (ts us : List Tree) (b : Branch) (r : Rule) (f k : ℕ) (v w x : Vec ℕ Global) (gs other : List ℕ) → Extends ts us → f < length ts → AreBelow (length ts) other → v.items ≡ f ∷ gs → w.items ≡ [] → x.items ≡ other → AreBelow (length us) gs → trees_at us gs ≡ grounds b (tree_at ts k)
    → HasAnswer us (Some (record { rule = r; named = v; terms = w; added = One x })) (gives r (tree_at ts f ∷ grounds b (tree_at ts k)) [] (trees_at ts other))
false_given ts us b r f k v w x gs other e lf bo ev ew ex bg eg =
    record {
      below = (
        subst (AreBelow (length us)) (sym ev) (below-extend ts us f e lf, bg),
        subst (AreBelow (length us)) (sym ew) tt,
        subst (AreBelow (length us)) (sym ex) (AreBelow-more (length ts) (length us) other (longer ts us e) bo),
      );
      is = λ i. alone_step r ((ap (trees_at us) ev ∙ (λ j. tree-extend ts us f e lf j ∷ eg j)) i) (ap (trees_at us) ew i) ((ap (trees_at us) ex ∙ trees_kept ts us other e bo) i);
    }

pub answer_as : (ts : List Tree) (o : Option Given) (x y : Option Step) → HasAnswer ts o x → x ≡ y → HasAnswer ts o y
answer_as ts o x y h e = subst (HasAnswer ts o) e h

-- splittings
pub parted_some : (ts : List Tree) (o : Option Parting) (p : Parting) (s : Option Splitting) → HasPartings ts o s → o ≡ Some p → (s ≡ Some (splitting_of ts p)) × AreBelow (length ts) p.left.items × AreBelow (length ts) p.right.items
parted_some ts o p s h e = go s (subst (λ x. HasPartings ts x s) e h)
  where
    go : (s : Option Splitting) → HasPartings ts (Some p) s → (s ≡ Some (splitting_of ts p)) × AreBelow (length ts) p.left.items × AreBelow (length ts) p.right.items
    go None k = absurd k
    go (Some x) k = (ap (λ y. Some y) (sym k.is), k.left, k.right)

pub splitting_kept : (ts us : List Tree) (p : Parting) → Extends ts us → AreBelow (length ts) p.left.items → AreBelow (length ts) p.right.items → splitting_of us p ≡ splitting_of ts p
splitting_kept ts us p x a b = λ i. parted p.rule (trees_kept ts us p.left.items x a i) (trees_kept ts us p.right.items x b i)

-- the splitting of the formula in a bank that grows
pub settle_kept : (ts us : List Tree) (b c : Branch) (f : ℕ) (o : Option Parting) (p : Parting) → HasPartings us o (splitting (tree_at ts f)) → o ≡ Some p → c ≡ b → tree_at us f ≡ tree_at ts f → settle_split c (tree_at us f) (splitting_of us p) ≡ settle b (tree_at ts f)
settle_kept ts us b c f o p h e eb et =
    (λ i. settle_split (eb i) (et i) (splitting_of us p)) ∙ sym (ap (after (settle_split b (tree_at ts f))) (parted_some us o p (splitting (tree_at ts f)) h e).0)

pub side_none : (ts : List Tree) (b : Branch) (list : List ℕ) → IsSide ts b (trees_at ts (drop (length list - 0) list)) (record { all_true = true; first_false = None })
side_none ts b list =
    let e : drop (length list - 0) list ≡ [] = drop_all (length list - 0) list (omega arith) in
    subst (λ is. IsSide ts b (trees_at ts is) (record { all_true = true; first_false = None })) (sym e) (record { all = refl; first = refl })
