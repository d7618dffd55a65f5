-- The first closed subterm for which a test answers, turn by turn.
use Rattle.std.proofs.Common.{◌≡◌, ℕ, ◌+◌, ◌<◌, ◌≤◌, Option, Some, None, List, length, get_or, drop, refl, ap, sym, ◌∙◌, subst}
use Rattle.std.proofs.lemmas.List.{drop_all}
use Rattle.core_expr.specs.Tree.{Tree}
use Rattle.core_expr.specs.Nodes.{AreBelow, picked}
use Rattle.term_bank.specs.Banks.{tree_at, Extends}
use Rattle.term_bank.proofs.TableLaws.{AreBelow-at}
use Rattle.term_shapes.proofs.Extending.{tree-extend}
use Rattle.term_order.specs.Firsts.{firsts}
use Rattle.term_order.proofs.FirstLaws.{first_some-firsts}
use Rattle.search_definition.specs.Terms.{or_else, first_some, closed_subterms, first_at}
use Rattle.search_definition.specs.Branches.{Branch}
use Rattle.formula_rules.specs.Answers.{HasTerm}
use Rattle.formula_rules.proofs.Listing.{picked_drop}

pub term_none : (ts : List Tree) (o : Option ℕ) (x : Option Tree) → HasTerm ts o x → o ≡ None → x ≡ None
term_none ts o x h e = go x (subst (λ p. HasTerm ts p x) e h)
  where
    go : (x : Option Tree) → HasTerm ts None x → x ≡ None
    go None k = refl
    go (Some t) k = absurd k

pub term_some : (ts : List Tree) (o : Option ℕ) (x : Option Tree) (p : ℕ) → HasTerm ts o x → o ≡ Some p → (p < length ts) × (x ≡ Some (tree_at ts p))
term_some ts o x p h e = go x (subst (λ q. HasTerm ts q x) e h)
  where
    go : (x : Option Tree) → HasTerm ts (Some p) x → (p < length ts) × (x ≡ Some (tree_at ts p))
    go None k = absurd k
    go (Some t) k = (k.within, ap (λ y. Some y) (sym k.tree))

-- the list of terms, turn by turn
module _ (R : Branch → Tree → Option Tree) (ts us vs : List Tree) (b c : Branch) (is : List ℕ) (i : ℕ) (x : Extends ts us) (e : c ≡ b) (a : AreBelow (length ts) is) (l : i < length is) where
  here : R c (tree_at us (get_or is i 0)) ≡ R b (tree_at ts (get_or is i 0))
  here = λ j. R (e j) (tree-extend ts us (get_or is i 0) x (AreBelow-at (length ts) is i a l) j)

  turn : first_some (R b) (picked ts (drop i is)) ≡ or_else (R c (tree_at us (get_or is i 0))) (first_some (R b) (picked ts (drop (i + 1) is)))
  turn = ap (first_some (R b)) (picked_drop ts is i l) ∙ ap (λ p. or_else p (first_some (R b) (picked ts (drop (i + 1) is)))) (sym here)

  pub first_next : (o : Option ℕ) → HasTerm vs o (R c (tree_at us (get_or is i 0))) → o ≡ None → first_some (R b) (picked ts is) ≡ first_some (R b) (picked ts (drop i is)) → first_some (R b) (picked ts is) ≡ first_some (R b) (picked ts (drop (i + 1) is))
  first_next o h eo n = n ∙ turn ∙ ap (λ p. or_else p (first_some (R b) (picked ts (drop (i + 1) is)))) (term_none vs o (R c (tree_at us (get_or is i 0))) h eo)

  pub first_found : (o : Option ℕ) (p : ℕ) → HasTerm vs o (R c (tree_at us (get_or is i 0))) → o ≡ Some p → first_some (R b) (picked ts is) ≡ first_some (R b) (picked ts (drop i is)) → HasTerm vs (Some p) (first_some (R b) (picked ts is))
  first_found o p h eo n =
      let q = term_some vs o (R c (tree_at us (get_or is i 0))) p h eo in
      subst (HasTerm vs (Some p)) (sym (n ∙ turn ∙ ap (λ p. or_else p (first_some (R b) (picked ts (drop (i + 1) is)))) q.1)) (record { within = q.0; tree = refl })

pub first_end : (R : Branch → Tree → Option Tree) (ts vs : List Tree) (b : Branch) (is : List ℕ) (i : ℕ) → length is ≤ i → first_some (R b) (picked ts is) ≡ first_some (R b) (picked ts (drop i is)) → HasTerm vs None (first_some (R b) (picked ts is))
first_end R ts vs b is i l n = subst (HasTerm vs None) (sym (n ∙ ap (λ js. first_some (R b) (picked ts js)) (drop_all i is l))) tt

-- what the list of closed subterms answers, the term answers
pub at_first : (R : Branch → Tree → Option Tree) (ts vs : List Tree) (b : Branch) (is js : List ℕ) (t : Tree) (o : Option ℕ) → js ≡ is → picked ts is ≡ firsts (closed_subterms t) → HasTerm vs o (first_some (R b) (picked ts js)) → HasTerm vs o (first_at (R b) t)
at_first R ts vs b is js t o e f h = subst (HasTerm vs o) (ap (λ xs. first_some (R b) (picked ts xs)) e ∙ ap (first_some (R b)) f ∙ first_some-firsts (R b) (closed_subterms t)) h
