-- One step to the first difference.
use Rattle.std.proofs.Common.{◌≡◌, ℕ, ◌<◌, Some, None, List, length, get_or, refl, ap, sym, ◌∙◌, inl, inr, IsTrue, Bool, true, false}
use Rattle.std.specs.Prelude.{◌⊎◌}
use Rattle.core_expr.specs.declared.head.Sym.{Sym}
use Rattle.core_expr.specs.Tree.{Tree}
use Rattle.core_expr.specs.Tree.Tree.{bound, app, node, bind}
use Rattle.core_expr.specs.Tree.Parts.{end}
use Rattle.core_expr.specs.Heads.{kind_at}
use Rattle.core_expr.specs.Terms.{same, same_sym}
use Rattle.core_expr.specs.Nodes.{Node, canon_sym, picked}
use Rattle.core_expr.proofs.Equal.{same-true}
use Rattle.unifier_definition.specs.Metas.{meta_of}
use Rattle.unifier_definition.specs.Unify.{against, met_by, difference, differences}
use Rattle.unifier_definition.specs.Unify.Difference.{Same, Clash, Bind}
use Rattle.unifier_definition.specs.Walk.{first_difference, DifferenceByParts}
use Rattle.unifier_definition.proofs.Substituted.{either}
use Rattle.term_bank.specs.Banks.{IsDistinct, HasNode, tree_at}
use Rattle.term_bank.proofs.TableLaws.{AreBelow-at}
use Rattle.unify_meta.specs.Metas.{IsMeta}
use Rattle.term_walks.specs.Places.{IsPlace}
use Rattle.term_walks.proofs.PlaceLaws.{parts_same}
use Rattle.unify_meta.specs.Disagreements.{is_listing}
use Rattle.unify_meta.proofs.DifferLaws.{by_parts, parts_apart, parts_short}

meta-left : (ms : List Sym) (f : Sym) (t : Tree) → meta_of ms (app f end) ≡ Some f → difference ms (app f end) t ≡ against f t
meta-left ms f (bound i) h = ap (λ o. met_by o (meta_of ms (bound i)) (app f end) (bound i) Clash) h
meta-left ms f (app g qs) h =
    ap (λ o. met_by o (meta_of ms (app g qs)) (app f end) (app g qs) (elim (same_sym f g) [ true ↦ differences ms end qs | false ↦ Clash ])) h
meta-left ms f (node k ns qs) h = ap (λ o. met_by o (meta_of ms (node k ns qs)) (app f end) (node k ns qs) Clash) h
meta-left ms f (bind b qs e) h = ap (λ o. met_by o (meta_of ms (bind b qs e)) (app f end) (bind b qs e) Clash) h

meta-right : (ms : List Sym) (g : Sym) (s : Tree) → meta_of ms s ≡ None → meta_of ms (app g end) ≡ Some g → difference ms s (app g end) ≡ Bind g s
meta-right ms g (bound i) a h = ap (λ o. met_by None o (bound i) (app g end) Clash) h
meta-right ms g (app f ps) a h =
    (λ x. met_by (a x) (h x) (app f ps) (app g end) (elim (same_sym f g) [ true ↦ differences ms ps end | false ↦ Clash ]))
meta-right ms g (node k ns ps) a h = ap (λ o. met_by None o (node k ns ps) (app g end) Clash) h
meta-right ms g (bind b ps e) a h = ap (λ o. met_by None o (bind b ps e) (app g end) Clash) h

-- a metavariable on the left
pub meets_left : (ms : List Sym) (ts : List Tree) (i j x : ℕ) → IsDistinct ts → i < length ts → j < length ts → (i ≡ j → ⊥) → IsMeta ms (tree_at ts i) (Some x) → difference ms (tree_at ts i) (tree_at ts j) ≡ Bind (canon_sym x 0) (tree_at ts j)
meets_left ms ts i j x d l m ne h =
    ap (λ s. difference ms s (tree_at ts j)) h.1
    ∙ meta-left ms (canon_sym x 0) (tree_at ts j) (ap (meta_of ms) (sym h.1) ∙ h.0)
    ∙ ap (λ b. either b Same (Bind (canon_sym x 0) (tree_at ts j))) (apart (same (app (canon_sym x 0) end) (tree_at ts j)) refl)
  where
    apart : (b : Bool) → same (app (canon_sym x 0) end) (tree_at ts j) ≡ b → same (app (canon_sym x 0) end) (tree_at ts j) ≡ false
    apart true e = absurd (ne (d i j l m (h.1 ∙ same-true (app (canon_sym x 0) end) (tree_at ts j) e)))
    apart false e = e

-- or on the right, and none on the left
pub meets_right : (ms : List Sym) (ts : List Tree) (i j x : ℕ) → IsMeta ms (tree_at ts i) None → IsMeta ms (tree_at ts j) (Some x) → difference ms (tree_at ts i) (tree_at ts j) ≡ Bind (canon_sym x 0) (tree_at ts i)
meets_right ms ts i j x a h =
    ap (difference ms (tree_at ts i)) h.1 ∙ meta-right ms (canon_sym x 0) (tree_at ts i) a (ap (meta_of ms) (sym h.1) ∙ h.0)

-- nodes that are alike: their parts tell
module _ (law : DifferenceByParts) (ms : List Sym) (ts : List Tree) (i j : ℕ) (n m : Node) (d : IsDistinct ts) (gi : HasNode ts i n) (gj : HasNode ts j m) (ne : i ≡ j → ⊥) (eh : n.head ≡ m.head) (like : (n.numbers ≡ m.numbers) ⊎ IsTrue (is_listing (kind_at n.head))) where
  told : (difference ms (tree_at ts i) (tree_at ts j) ≡ first_difference ms (picked ts n.parts) (picked ts m.parts)) × (picked ts n.parts ≡ picked ts m.parts → tree_at ts i ≡ tree_at ts j)
  told = go (by_parts ts ms i j n m gi gj law eh like)
    where
      go : (tree_at ts i ≡ tree_at ts j) ⊎ ((difference ms (tree_at ts i) (tree_at ts j) ≡ first_difference ms (picked ts n.parts) (picked ts m.parts)) × (picked ts n.parts ≡ picked ts m.parts → tree_at ts i ≡ tree_at ts j))
          → (difference ms (tree_at ts i) (tree_at ts j) ≡ first_difference ms (picked ts n.parts) (picked ts m.parts)) × (picked ts n.parts ≡ picked ts m.parts → tree_at ts i ≡ tree_at ts j)
      go (inl e) = absurd (ne (d i j gi.within gj.within e))
      go (inr h) = h

  pub goes_below : (k p q : ℕ) → IsPlace n.parts m.parts (Some k) → p ≡ get_or n.parts k 0 → q ≡ get_or m.parts k 0 → difference ms (tree_at ts i) (tree_at ts j) ≡ difference ms (tree_at ts p) (tree_at ts q)
  goes_below k p q h ep eq =
      told.0
      ∙ parts_apart ms ts n.parts m.parts k d (AreBelow-at (length ts) n.parts k gi.node.1 h.0) (AreBelow-at (length ts) m.parts k gj.node.1 h.1) h.0 h.1 h.2 h.3
      ∙ (λ x. difference ms (tree_at ts (sym ep x)) (tree_at ts (sym eq x)))

  pub ends_short : IsPlace n.parts m.parts None → difference ms (tree_at ts i) (tree_at ts j) ≡ Clash
  ends_short h =
      told.0 ∙ parts_short ms ts n.parts m.parts h (λ e. ne (d i j gi.within gj.within (told.1 (ap (picked ts) (parts_same n.parts m.parts h e)))))
