-- The facts that expressions name.
use Rattle.std.proofs.Common.{◌≡◌, ◌<◌, ◌≤◌, List, [], ◌∷◌, map, length, None, refl, sym, ap, subst, ◌∙◌, arith}
use Rattle.tla_ast.specs.declared.place.Place.{Place}
use Rattle.tla_ast.specs.declared.tree.Node.{Node, out-Node}
use Rattle.tla_ast.specs.declared.tree.Form.{out-Form, roll-Form, roll-out-Form}
use Rattle.tla_ast.specs.declared.tree.Form.TheFolds.{fold-roll-Form}
use Rattle.tla_ast.specs.declared.tree.Form.TheOpen.{Form-F}
use Rattle.tla_ast.specs.declared.tree.Form.TheVariants as form
use Rattle.plain_syntax.specs.Plain.{Text, Term, Keys}
use Rattle.plain_syntax.specs.Plain.Term.{term}
use Rattle.plain_syntax.specs.Plain.Shape.{name}
use Rattle.plain_syntax.specs.Syntax.{Held, shape_of, key_of, def_of, group_of, node_of, path_of, term_of, terms_of, except_of}
use Rattle.plain_syntax.proofs.Forms.{held, by-form, is-name}
use Rattle.module_scope.specs.Scope.{found}
use Rattle.module_scope.specs.Names.{Book, named_fact, fact_of, place_of, scope_of}

module _ (n : Node) where
  -- what holds by the form of a node holds of the node
  made : (P : Term → Type 0) (x : Form-F _ _ _ _ _ _) (h : Held) → out-Form (out-Node n).form ≡ x → held (roll-Form x) ≡ h → P (h (map term_of (out-Node n).parts) (out-Node n).place)
      → P (held (out-Node n).form (map term_of (out-Node n).parts) (out-Node n).place)
  made P x h e g i =
      subst (λ (k : Held). P (k (map term_of (out-Node n).parts) (out-Node n).place)) (sym (ap held (sym (roll-out-Form (out-Node n).form) ∙ ap roll-Form e) ∙ g)) i

  abbrev IsPlaced : Term → Type 0
  IsPlaced t = place_of t ≡ (out-Node n).place

  placed-except : (ks : List Keys) (ts : List Term) → IsPlaced (except_of ks ts (out-Node n).place)
  placed-except ks [] = refl
  placed-except ks (t ∷ ts) = refl

  pub placed : IsPlaced (term_of n)
  unfolding held
  placed =
      subst IsPlaced (sym (by-form n (held (out-Node n).form) refl))
      ((elim (out-Form (out-Node n).form) as (λ x. out-Form (out-Node n).form ≡ x → IsPlaced (held (out-Node n).form (map term_of (out-Node n).parts) (out-Node n).place)) [
        | Form-F.Except ps ↦ λ e. made IsPlaced _ _ e (fold-roll-Form _ _ _ _ _ _ shape_of key_of def_of group_of node_of path_of _) (placed-except _ (map term_of (out-Node n).parts))
        | _ ↦ λ e. made IsPlaced _ _ e (fold-roll-Form _ _ _ _ _ _ shape_of key_of def_of group_of node_of path_of _) refl
      ]) refl)

  module _ (b : Book) where
    abbrev IsNoFact : Term → Type 0
    IsNoFact t = None ≡ named_fact b t

    no-fact-except : (ks : List Keys) (ts : List Term) → IsNoFact (except_of ks ts (out-Node n).place)
    no-fact-except ks [] = refl
    no-fact-except ks (t ∷ ts) = refl

    pub no-fact : ((w : Text) → (out-Node n).form ≡ form.Name w → ⊥) → IsNoFact (term_of n)
    unfolding held
    no-fact none =
        subst IsNoFact (sym (by-form n (held (out-Node n).form) refl))
        ((elim (out-Form (out-Node n).form) as (λ x. out-Form (out-Node n).form ≡ x → IsNoFact (held (out-Node n).form (map term_of (out-Node n).parts) (out-Node n).place)) [
          | Form-F.Name w ↦ λ e. absurd (none w (sym (roll-out-Form (out-Node n).form) ∙ ap roll-Form e ∙ form.rolls-Name w))
          | Form-F.Except ps ↦ λ e. made IsNoFact _ _ e (fold-roll-Form _ _ _ _ _ _ shape_of key_of def_of group_of node_of path_of _) (no-fact-except _ (map term_of (out-Node n).parts))
          | _ ↦ λ e. made IsNoFact _ _ e (fold-roll-Form _ _ _ _ _ _ shape_of key_of def_of group_of node_of path_of _) refl
        ]) refl)

    applied : (w : Text) (p : Place) (ns : List Node) → 0 < length ns → None ≡ named_fact b (term (name w) (terms_of (map term_of ns)) p)
    applied w p [] h = absurd (omega arith)
    applied w p (m ∷ ns) h = refl

    pub fact-applied : (w : Text) → (out-Node n).form ≡ form.Name w → 0 < length (out-Node n).parts → IsNoFact (term_of n)
    fact-applied w e h = applied w (out-Node n).place (out-Node n).parts h ∙ sym (ap (named_fact b) (is-name n w e))

    bare : (w : Text) (p : Place) (ns : List Node) → length ns ≤ 0 → fact_of b (found w (scope_of b)) ≡ named_fact b (term (name w) (terms_of (map term_of ns)) p)
    bare w p [] h = refl
    bare w p (m ∷ ns) h = absurd (omega arith)

    pub fact-alone : (w : Text) → (out-Node n).form ≡ form.Name w → length (out-Node n).parts ≤ 0 → fact_of b (found w (scope_of b)) ≡ named_fact b (term_of n)
    fact-alone w e h = bare w (out-Node n).place (out-Node n).parts h ∙ sym (ap (named_fact b) (is-name n w e))
