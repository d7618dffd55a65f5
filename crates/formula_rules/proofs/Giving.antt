-- Answers that are put together of places of a table, and left sides of enumerations and tuples.
use Rattle.std.proofs.Common.{◌≡◌, ℕ, ◌<◌, Bool, true, false, nat_eq, Option, Some, None, List, [], ◌∷◌, length, Vec, Global, refl, ap, sym, ◌∙◌, arith, subst}
use Rattle.std.proofs.lemmas.Bool.Decides.{nat_tests}
use Rattle.core_expr.specs.Tree.{Tree, true_, false_, and_, eq_, tuple_}
use Rattle.core_expr.specs.Heads.{parts_of}
use Rattle.core_expr.specs.Nodes.{AreBelow, picked}
use Rattle.core_expr.proofs.BuildLaws.{size-parts_of}
use Rattle.seq_calculus.specs.Schemas.{join, equal_pairs}
use Rattle.term_bank.specs.Banks.{Extends, HasTree, tree_at}
use Rattle.term_bank.proofs.TableLaws.{length-picked}
use Rattle.term_shapes.specs.Forms.{ArePlaced}
use Rattle.term_shapes.proofs.Extending.{tree-extend, below-extend, all_below-extend}
use Rattle.search_definition.specs.declared.rule.Rule.{Rule}
use Rattle.search_definition.specs.Rules.Sides.{Alone, Both}
use Rattle.search_definition.specs.Terms.{if_so, after, list_of}
use Rattle.search_definition.specs.Plain.{left_side}
use Rattle.formula_rules.specs.declared.given.Sides.TheVariants.{Alone as One, Both as Two}
use Rattle.search_definition.specs.Splits.{Splitting, split_as}
use Rattle.formula_rules.specs.declared.parting.Parting.{Parting}
use Rattle.formula_rules.specs.Answers.{trees_at, gathered, alone_step, both_step, HasStep, HasAnswer, SaysLeft, tuples_mean, parted, HasParting, HasPartings}
use Rattle.formula_rules.proofs.Listing.{gathered_trees, gathered_below}

pub same_tree : (ts ts' : List Tree) (i : ℕ) → Extends ts ts' → i < length ts → HasTree ts' i (tree_at ts i)
same_tree ts ts' i x l = record { within = below-extend ts ts' i x l; tree = tree-extend ts ts' i x l }

-- trees of a longer bank
pub trees_kept : (ts ts' : List Tree) (is : List ℕ) → Extends ts ts' → AreBelow (length ts) is → trees_at ts' is ≡ trees_at ts is
trees_kept ts ts' [] x b = refl
trees_kept ts ts' (i ∷ is) x b = λ k. tree-extend ts ts' i x b.0 k ∷ trees_kept ts ts' is x b.1 k

pub alone_given : (ts ts' table : List Tree) (r : Rule) (named terms places at : List ℕ) (v w u : Vec ℕ Global) → Extends ts ts' → AreBelow (length ts) named → AreBelow (length ts) terms → v.items ≡ named → w.items ≡ terms → u.items ≡ gathered places at → ArePlaced ts' table places → AreBelow (length places) at → HasStep ts' (record { rule = r; named = v; terms = w; added = One u }) (alone_step r (trees_at ts named) (trees_at ts terms) (trees_at table at))
alone_given ts ts' table r named terms places at v w u x bn bt ev ew eu a b =
    let n = length ts' in
    record {
      below = (subst (AreBelow n) (sym ev) (all_below-extend ts ts' named x bn), subst (AreBelow n) (sym ew) (all_below-extend ts ts' terms x bt), subst (AreBelow n) (sym eu) (gathered_below n places at a.below b));
      is = λ i. record {
        rule = r;
        named = (ap (trees_at ts') ev ∙ trees_kept ts ts' named x bn) i;
        terms = (ap (trees_at ts') ew ∙ trees_kept ts ts' terms x bt) i;
        sides = Alone ((ap (trees_at ts') eu ∙ gathered_trees ts' table places at a b) i);
      };
    }

pub both_given : (ts ts' table : List Tree) (r : Rule) (named terms places left right : List ℕ) (v w p q : Vec ℕ Global) → Extends ts ts' → AreBelow (length ts) named → AreBelow (length ts) terms → v.items ≡ named → w.items ≡ terms → p.items ≡ gathered places left → q.items ≡ gathered places right → ArePlaced ts' table places → AreBelow (length places) left → AreBelow (length places) right → HasStep ts' (record { rule = r; named = v; terms = w; added = Two p q }) (both_step r (trees_at ts named) (trees_at ts terms) (trees_at table left) (trees_at table right))
both_given ts ts' table r named terms places left right v w p q x bn bt ev ew ep eq a b d =
    let n = length ts' in
    record {
      below = (
        subst (AreBelow n) (sym ev) (all_below-extend ts ts' named x bn),
        subst (AreBelow n) (sym ew) (all_below-extend ts ts' terms x bt),
        (subst (AreBelow n) (sym ep) (gathered_below n places left a.below b), subst (AreBelow n) (sym eq) (gathered_below n places right a.below d)),
      );
      is = λ i. record {
        rule = r;
        named = (ap (trees_at ts') ev ∙ trees_kept ts ts' named x bn) i;
        terms = (ap (trees_at ts') ew ∙ trees_kept ts ts' terms x bt) i;
        sides = Both ((ap (trees_at ts') ep ∙ gathered_trees ts' table places left a b) i) ((ap (trees_at ts') eq ∙ gathered_trees ts' table places right a d) i);
      };
    }

pub listed : (us : List Tree) → list_of (parts_of us) ≡ us
listed [] = refl
listed (u ∷ us) = ap (λ vs. u ∷ vs) (listed us)

-- tuples that are not as long, and that are
tuples_by : (b : Bool) (ls rs : List Tree) → nat_eq (length ls) (length rs) ≡ b → if_so b (join (λ a b. and_ a b) true_ (equal_pairs ls rs)) false_ ≡ tuples_mean ls rs
tuples_by b ls rs e = ap (λ b. if_so b (join (λ a b. and_ a b) true_ (equal_pairs ls rs)) false_) (sym e)

picked-length : (ts : List Tree) (us : List Tree) (is : List ℕ) → us ≡ picked ts is → length us ≡ length is
picked-length ts us is e = ap length e ∙ length-picked ts is

pub tuples_apart : (ts us vs : List Tree) (ls rs : List ℕ) → us ≡ picked ts ls → vs ≡ picked ts rs → (length ls ≡ length rs → ⊥) → false_ ≡ tuples_mean us vs
tuples_apart ts us vs ls rs e f n = tuples_by false us vs (differ (length us) (length vs) (λ q. n (sym (picked-length ts us ls e) ∙ q ∙ picked-length ts vs rs f)))
  where
    differ : (m n : ℕ) → (m ≡ n → ⊥) → nat_eq m n ≡ false
    differ m n h = grind (arith, nat_tests)

pub tuples_alike : (ts us vs : List Tree) (ls rs : List ℕ) → us ≡ picked ts ls → vs ≡ picked ts rs → length ls ≡ length rs → join (λ a b. and_ a b) true_ (equal_pairs (picked ts ls) (picked ts rs)) ≡ tuples_mean us vs
tuples_alike ts us vs ls rs e f q = (λ i. join (λ a b. and_ a b) true_ (equal_pairs (sym e i) (sym f i))) ∙ tuples_by true us vs (equal (length us) (length vs) (picked-length ts us ls e ∙ q ∙ sym (picked-length ts vs rs f)))
  where
    equal : (m n : ℕ) → m ≡ n → nat_eq m n ≡ true
    equal m n h = grind (arith, nat_tests)

pub tuples_left : (ts : List Tree) (k : ℕ) (a b : Tree) (us vs : List Tree) → a ≡ tuple_ (parts_of us) → b ≡ tuple_ (parts_of vs) → HasTree ts k (tuples_mean us vs) → SaysLeft ts (Some (record { schema = 20; right = k })) (left_side (eq_ a b))
tuples_left ts k a b us vs e f h =
    coe 0 1 (i. SaysLeft ts (Some (record { schema = 20; right = k })) (left_side (eq_ (sym e i) (sym f i))))
    (record { schema = refl; right = record { within = h.within; tree = h.tree ∙ (λ i. if_so (nat_eq (sym (size-parts_of us) i) (sym (size-parts_of vs) i)) (join (λ a b. and_ a b) true_ (equal_pairs (sym (listed us) i) (sym (listed vs) i))) false_) } })

pub parting_given : (ts table : List Tree) (r : Rule) (places left right : List ℕ) (x y : Vec ℕ Global) → x.items ≡ gathered places left → y.items ≡ gathered places right → ArePlaced ts table places → AreBelow (length places) left → AreBelow (length places) right → HasParting ts (record { rule = r; left = x; right = y }) (parted r (trees_at table left) (trees_at table right))
parting_given ts table r places left right x y ex ey a b d =
    record {
      left = subst (AreBelow (length ts)) (sym ex) (gathered_below (length ts) places left a.below b);
      right = subst (AreBelow (length ts)) (sym ey) (gathered_below (length ts) places right a.below d);
      is = λ i. record { rule = r; left = (ap (trees_at ts) ex ∙ gathered_trees ts table places left a b) i; right = (ap (trees_at ts) ey ∙ gathered_trees ts table places right a d) i };
    }

-- the step of a splitting
pub split_given : (ts : List Tree) (f : ℕ) (t : Tree) (p : Parting) (o : Option Splitting) (v w : Vec ℕ Global) → HasPartings ts (Some p) o → HasTree ts f t → v.items ≡ f ∷ [] → w.items ≡ [] → HasAnswer ts (Some (record { rule = p.rule; named = v; terms = w; added = Two p.left p.right })) (after (split_as t) o)
split_given ts f t p None v w h q ev ew = h
split_given ts f t p (Some s) v w h q ev ew =
    record {
      below = (subst (AreBelow (length ts)) (sym ev) (q.within, tt), subst (AreBelow (length ts)) (sym ew) tt, (h.left, h.right));
      is = λ i. record {
        rule = (h.is i).rule;
        named = (ap (trees_at ts) ev ∙ (λ j. q.tree j ∷ [])) i;
        terms = ap (trees_at ts) ew i;
        sides = Both (h.is i).left (h.is i).right;
      };
    }
