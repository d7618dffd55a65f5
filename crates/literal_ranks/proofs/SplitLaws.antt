-- What a literal gives at a subterm that it is split at.
use Rattle.std.proofs.Common.{◌≡◌, ℕ, ◌<◌, Bool, true, Option, Some, None, List, [], ◌∷◌, length, refl, sym, ◌∙◌, subst}
use Rattle.core_expr.specs.Tree.{Tree, apply_, if_, fun_}
use Rattle.core_expr.specs.Nodes.{AreBelow}
use Rattle.term_bank.specs.Banks.{tree_at, Extends}
use Rattle.term_bank.proofs.InstLaws.{Extends-trans}
use Rattle.term_shapes.proofs.Extending.{tree-extend, below-extend, all_below-extend}
use Rattle.search_definition.specs.Terms.{after, first_at}
use Rattle.search_definition.specs.Branches.{Branch}
use Rattle.search_definition.specs.Values.{Truth, truth, grounds}
use Rattle.search_definition.specs.Splits.{is_literal, of_literal, split_by, split_term, split_at, term_split}
use Rattle.branch_state.specs.Shown.{Placed}
use Rattle.tableau_search.specs.Entries.{branch_of, AreKnown}
use Rattle.tableau_search.proofs.LiftLaws.{branch_kept}
use Rattle.formula_rules.specs.declared.given.Given.{Given}
use Rattle.formula_rules.specs.Answers.{HasAnswer, trees_at}
use Rattle.formula_rules.proofs.Giving.{trees_kept}
use Rattle.literal_ranks.specs.declared.division.Division.{Division}
use Rattle.literal_ranks.specs.Dividing.{Dividing, dividing, dividing_of, divided, IsWithin, HasDivisions}

-- the step at a subterm is that of its division
split_is : (b : Branch) (f u : Tree) → split_at b f u ≡ after (divided b f u) (dividing f u)
split_is b f (if_ p x y) = refl
split_is b f (apply_ (fun_ s e) a) = refl
split_is b f _ = refl

-- a division in a bank that has grown
pub within_kept : (ts us : List Tree) (d : Division) → Extends ts us → IsWithin ts d → IsWithin us d
within_kept ts us d x w =
    record {
      condition = below-extend ts us d.condition x w.condition;
      left = all_below-extend ts us d.left.items x w.left;
      right = all_below-extend ts us d.right.items x w.right;
    }

-- the answer by a value and grounds that were found one after the other
pub divided_kept : (ts us vs : List Tree) (es : List Placed) (f u : ℕ) (d : Division) (gs : List ℕ) (v : Truth) (o : Option Given) → Extends ts us → Extends us vs → AreKnown (length ts) es → AreBelow (length ts) (f ∷ u ∷ []) → IsWithin ts d
    → v ≡ truth (branch_of ts es) (tree_at ts d.condition)
    → trees_at vs gs ≡ grounds (branch_of us es) (tree_at us d.condition)
    → HasAnswer vs o (split_by v d.rule (tree_at vs f) (trees_at vs gs) (tree_at vs u) (trees_at vs d.left.items) (trees_at vs d.right.items))
    → HasAnswer vs o (divided (branch_of ts es) (tree_at ts f) (tree_at ts u) (dividing_of ts d))
divided_kept ts us vs es f u d gs v o x y k l w ev eg h =
    let z = Extends-trans ts us vs x y in
    let eb = branch_kept ts us es x k in
    let ec = tree-extend ts us d.condition x w.condition in
    coe 0 1
    (i. HasAnswer vs o (split_by (ev i) d.rule (tree-extend ts vs f z l.0 i) ((eg ∙ (λ j. grounds (eb j) (ec j))) i) (tree-extend ts vs u z l.1.0 i) (trees_kept ts vs d.left.items z w.left i) (trees_kept ts vs d.right.items z w.right i)))
    h

-- the answer of a division
some_divided : (ts us : List Tree) (b : Branch) (f u : Tree) (p : Option Division) (d : Division) (o : Option Given) → HasDivisions ts p (dividing f u) → p ≡ Some d → HasAnswer us o (divided b f u (dividing_of ts d)) → HasAnswer us o (split_at b f u)
some_divided ts us b f u p d o h e k = subst (HasAnswer us o) (sym (split_is b f u)) (go (dividing f u) (subst (λ q. HasDivisions ts q (dividing f u)) e h))
  where
    go : (q : Option Dividing) → HasDivisions ts (Some d) q → HasAnswer us o (after (divided b f u) q)
    go None m = absurd m
    go (Some s) m = subst (λ s. HasAnswer us o (divided b f u s)) m.is k

-- the indices of a division that was found are those of the bank
pub division_within : (ts : List Tree) (p : Option Division) (q : Option Dividing) (d : Division) → HasDivisions ts p q → p ≡ Some d → IsWithin ts d
division_within ts p q d h e = go q (subst (λ r. HasDivisions ts r q) e h)
  where
    go : (q : Option Dividing) → HasDivisions ts (Some d) q → IsWithin ts d
    go None m = absurd m
    go (Some s) m = m.within

-- the answer at a subterm, over the bank as it was
pub split_kept : (ts us vs : List Tree) (es : List Placed) (f : ℕ) (t : Tree) (u : ℕ) (o : Option Given) → Extends ts us → AreKnown (length ts) es → f < length ts → tree_at us u ≡ t → HasAnswer vs o (split_at (branch_of us es) (tree_at us f) (tree_at us u)) → HasAnswer vs o (split_at (branch_of ts es) (tree_at ts f) t)
split_kept ts us vs es f t u o x k l e h = coe 0 1 (i. HasAnswer vs o (split_at (branch_kept ts us es x k i) (tree-extend ts us f x l i) (e i))) h

pub divided_at : (ts us vs : List Tree) (es : List Placed) (f u : ℕ) (p : Option Division) (d : Division) (o : Option Given) → Extends ts us → AreKnown (length ts) es → AreBelow (length ts) (f ∷ u ∷ []) → HasDivisions us p (dividing (tree_at ts f) (tree_at ts u)) → p ≡ Some d → HasAnswer vs o (divided (branch_of us es) (tree_at us f) (tree_at us u) (dividing_of us d)) → HasAnswer vs o (split_at (branch_of ts es) (tree_at ts f) (tree_at ts u))
divided_at ts us vs es f u p d o x k l h e a =
    some_divided us vs (branch_of ts es) (tree_at ts f) (tree_at ts u) p d o h e (coe 0 1 (i. HasAnswer vs o (divided (branch_kept ts us es x k i) (tree-extend ts us f x l.0 i) (tree-extend ts us u x l.1.0 i) (dividing_of us d))) a)

-- the answer of a literal
pub literal_split : (ts : List Tree) (x : Bool) (b : Branch) (f u : Tree) (o : Option Given) → x ≡ is_literal f → x ≡ true → first_at (split_term b) f ≡ Some u → HasAnswer ts o (split_at b f u) → HasAnswer ts o (term_split b f)
literal_split ts x b f u o el z e h = coe 0 1 (i. HasAnswer ts o (of_literal ((sym z ∙ el) i) (after (split_at b f) (sym e i)))) h
