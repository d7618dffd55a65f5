-- Formulas that stand on the branch, and the value of a formula as a whole.
use Rattle.std.proofs.Common.{◌≡◌, ℕ, ◌<◌, Bool, true, false, Option, Some, None, List, [], ◌∷◌, length, refl, ap, sym, ◌∙◌, subst}
use Rattle.std.specs.Prelude.{is_some}
use Rattle.core_expr.specs.Tree.{Tree, not_, and_, or_, imp_, iff_}
use Rattle.core_expr.specs.Terms.{same}
use Rattle.core_expr.specs.Nodes.{AreBelow}
use Rattle.core_expr.proofs.Equal.{same-true}
use Rattle.term_bank.specs.Banks.{tree_at, IsDistinct, Extends, HasTree}
use Rattle.search_definition.specs.Terms.{if_so, either}
use Rattle.search_definition.specs.Branches.{Branch, has}
use Rattle.search_definition.specs.Values.{Truth, Whole, whole, truth_by, truth, grounds_by, grounds, mirror, is_plainly_true, is_plainly_false, has_mirror, has_not_mirror}
use Rattle.search_definition.specs.Values.Whole.{Stands, ByItself, Mirrored, NotStands, FalseItself, NotMirrored, Undecided}
use Rattle.branch_state.specs.Shown.{Placed, stands}
use Rattle.tableau_search.specs.Entries.{branch_of, AreKnown}
use Rattle.tableau_search.proofs.LiftLaws.{lift_has, extends_length, known_higher, branch_kept, tree_kept}
use Rattle.formula_rules.specs.Answers.{trees_at}
use Rattle.branch_values.specs.declared.reason.Reason.{Reason}
use Rattle.branch_values.specs.Judging.{truth_of, linking, linking_truth, linking_grounds}
use Rattle.branch_values.specs.Reasons.{Stood, basis_list, reason, first_reason, Gives, IsReason}

-- what no index has stands nowhere
pub absent_has : (ts : List Tree) (es : List Placed) (t : Tree) → AreKnown (length ts) es → ((k : ℕ) → HasTree ts k t → ⊥) → has (branch_of ts es) t ≡ false
absent_has ts [] t a n = refl
absent_has ts (e ∷ es) t a n = go (same (tree_at ts e.formula) t) refl (absent_has ts es t a.1 n)
  where
    go : (b : Bool) → same (tree_at ts e.formula) t ≡ b → has (branch_of ts es) t ≡ false → either b (has (branch_of ts es) t) ≡ false
    go true z h = absurd (n e.formula (record { within = a.0; tree = same-true (tree_at ts e.formula) t z }))
    go false z h = h

-- the test of the index is that of the formula
pub stood_at : (ts : List Tree) (es : List Placed) (i : ℕ) (b : Bool) → IsDistinct ts → AreKnown (length ts) es → i < length ts → b ≡ stands es i → has (branch_of ts es) (tree_at ts i) ≡ b
stood_at ts es i b d a l e = lift_has ts d es i a l ∙ sym e

-- what gives the value as a whole
gives_by : (ts : List Tree) (b : Branch) (t : Tree) (w : Whole) (r : Reason) → whole b t ≡ w → ((y : Truth) → truth_by w y ≡ truth_of r.value) → ((gs : List Tree) → grounds_by w t gs ≡ trees_at ts (basis_list r.basis)) → AreBelow (length ts) (basis_list r.basis) → Gives ts b t r
gives_by ts b t w r e f g l = record { value = λ y. ap (λ v. truth_by v y) e ∙ f y; grounds = λ gs. ap (λ v. grounds_by v t gs) e ∙ g gs; below = l }

abbrev whole_by : Bool → Bool → Bool → Bool → Bool → Bool → Whole
whole_by h t m n f d = if_so h Stands (if_so t ByItself (if_so m Mirrored (if_so n NotStands (if_so f FalseItself (if_so d NotMirrored Undecided)))))

stood_is : (ts : List Tree) (b : Bool) (t : Tree) (o : Option ℕ) → Stood ts b t o → b ≡ is_some o
stood_is ts b t None h = h
stood_is ts b t (Some k) h = h.0

pub stands_reason : (ts : List Tree) (b : Branch) (t : Tree) (i : ℕ) → HasTree ts i t → has b t ≡ true → Gives ts b t (reason true (Some i))
stands_reason ts b t i h e =
    gives_by ts b t Stands (reason true (Some i)) (ap (λ s. whole_by s (is_plainly_true t) (has_mirror b t) (has b (not_ t)) (is_plainly_false t) (has_not_mirror b t)) e) (λ y. refl) (λ gs. ap (λ u. u ∷ []) (sym h.tree)) (h.within, tt)

-- the first reason
pub reasoned : (ts : List Tree) (b : Branch) (t : Tree) (i : ℕ) (p f : Bool) (m d n : Option ℕ) → has b t ≡ false → is_plainly_true t ≡ p → Stood ts (has_mirror b t) (mirror t) m → Stood ts (has b (not_ t)) (not_ t) d → is_plainly_false t ≡ f → Stood ts (has_not_mirror b t) (not_ (mirror t)) n → IsReason ts b t (first_reason false p m d f n i)
reasoned ts b t i p f m d n es ep hm hd ef hn =
    go p m d f n (λ j. whole_by (es j) (ep j) (stood_is ts (has_mirror b t) (mirror t) m hm j) (stood_is ts (has b (not_ t)) (not_ t) d hd j) (ef j) (stood_is ts (has_not_mirror b t) (not_ (mirror t)) n hn j)) hm hd hn
  where
    go : (p : Bool) (m d : Option ℕ) (f : Bool) (n : Option ℕ) → whole b t ≡ whole_by false p (is_some m) (is_some d) f (is_some n) → Stood ts (has_mirror b t) (mirror t) m → Stood ts (has b (not_ t)) (not_ t) d → Stood ts (has_not_mirror b t) (not_ (mirror t)) n → IsReason ts b t (first_reason false p m d f n i)
    go true m d f n e hm hd hn = gives_by ts b t ByItself (reason true None) e (λ y. refl) (λ gs. refl) tt
    go false (Some k) d f n e hm hd hn = gives_by ts b t Mirrored (reason true (Some k)) e (λ y. refl) (λ gs. ap (λ u. u ∷ []) (sym hm.1.tree)) (hm.1.within, tt)
    go false None (Some k) f n e hm hd hn = gives_by ts b t NotStands (reason false (Some k)) e (λ y. refl) (λ gs. ap (λ u. u ∷ []) (sym hd.1.tree)) (hd.1.within, tt)
    go false None None true n e hm hd hn = gives_by ts b t FalseItself (reason false None) e (λ y. refl) (λ gs. refl) tt
    go false None None false (Some k) e hm hd hn = gives_by ts b t NotMirrored (reason false (Some k)) e (λ y. refl) (λ gs. ap (λ u. u ∷ []) (sym hn.1.tree)) (hn.1.within, tt)
    go false None None false None e hm hd hn = e

-- the value of a formula is that as a whole, or that by its connective
pub truth-linked : (b : Branch) (t : Tree) → truth b t ≡ truth_by (whole b t) (linking_truth b (linking t))
unfolding truth
truth-linked b (not_ a) = refl
truth-linked b (and_ x y) = refl
truth-linked b (or_ x y) = refl
truth-linked b (imp_ x y) = refl
truth-linked b (iff_ x y) = refl
truth-linked b f = refl

pub grounds-linked : (b : Branch) (t : Tree) → grounds b t ≡ grounds_by (whole b t) t (linking_grounds b (linking t))
unfolding grounds
grounds-linked b (not_ a) = refl
grounds-linked b (and_ x y) = refl
grounds-linked b (or_ x y) = refl
grounds-linked b (imp_ x y) = refl
grounds-linked b (iff_ x y) = refl
grounds-linked b f = refl

-- in a bank that grows
pub known_grown : (ts us : List Tree) (es : List Placed) → Extends ts us → AreKnown (length ts) es → AreKnown (length us) es
known_grown ts us es x a = known_higher (length ts) (length us) es (extends_length ts us x) a

pub reasoned_kept : (ts us : List Tree) (es : List Placed) (i : ℕ) (p f : Bool) (m d n : Option ℕ) (r : Option Reason) → Extends ts us → AreKnown (length ts) es → has (branch_of ts es) (tree_at ts i) ≡ false → i < length ts
    → p ≡ is_plainly_true (tree_at us i)
    → Stood us (has_mirror (branch_of us es) (tree_at us i)) (mirror (tree_at us i)) m
    → Stood us (has (branch_of us es) (not_ (tree_at us i))) (not_ (tree_at us i)) d
    → f ≡ is_plainly_false (tree_at us i)
    → Stood us (has_not_mirror (branch_of us es) (tree_at us i)) (not_ (mirror (tree_at us i))) n
    → r ≡ first_reason false p m d f n i
    → IsReason us (branch_of ts es) (tree_at ts i) r
reasoned_kept ts us es i p f m d n r x a h l ep hm hd ef hn er =
    subst (IsReason us (branch_of ts es) (tree_at ts i)) (sym er)
    (subst (λ b. IsReason us b (tree_at ts i) (first_reason false p m d f n i)) eb
    (subst (λ t. IsReason us (branch_of us es) t (first_reason false p m d f n i)) et
    (reasoned us (branch_of us es) (tree_at us i) i p f m d n ((λ j. has (eb j) (et j)) ∙ h) (sym ep) hm hd (sym ef) hn)))
  where
    eb : branch_of us es ≡ branch_of ts es
    eb = branch_kept ts us es x a

    et : tree_at us i ≡ tree_at ts i
    et = tree_kept ts us i x l

pub has_reason : (ts : List Tree) (b : Branch) (t : Tree) (i : ℕ) (r : Option Reason) → HasTree ts i t → has b t ≡ true → r ≡ Some (reason true (Some i)) → IsReason ts b t r
has_reason ts b t i r h e er = subst (IsReason ts b t) (sym er) (stands_reason ts b t i h e)

pub some_reason : (ts : List Tree) (b : Branch) (t : Tree) (o : Option Reason) (r : Reason) → IsReason ts b t o → o ≡ Some r → Gives ts b t r
some_reason ts b t o r h e = subst (IsReason ts b t) e h

pub no_reason : (ts : List Tree) (b : Branch) (t : Tree) (o : Option Reason) → IsReason ts b t o → o ≡ None → whole b t ≡ Undecided
no_reason ts b t o h e = subst (IsReason ts b t) e h
