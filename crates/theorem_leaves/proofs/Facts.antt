-- Facts after BY, USE and HIDE, one after another; names of facts, form by form.
use Rattle.std.proofs.Common.{◌≡◌, ℕ, List, [], ◌∷◌, ◌++◌, map, Option, None, refl, sym, ap, ◌∙◌, append-nil}
use Rattle.tla_ast.specs.declared.place.Place.{Place}
use Rattle.tla_ast.specs.declared.tree.Node.{Node, out-Node}
use Rattle.tla_ast.specs.declared.tree.Path.{Path}
use Rattle.tla_ast.specs.declared.tree.Key.{Key}
use Rattle.tla_ast.specs.declared.tree.Group.{Group}
use Rattle.tla_ast.specs.declared.tree.Def.{Def}
use Rattle.tla_ast.specs.declared.tree.Form.{Form, out-Form, roll-Form, roll-out-Form}
use Rattle.tla_ast.specs.declared.tree.Form.TheFolds.{fold-roll-Form}
use Rattle.tla_ast.specs.declared.tree.Form.TheOpen.{Form-F}
use Rattle.tla_ast.specs.declared.tree.Form.TheVariants as form
use Rattle.symbol_table.specs.declared.entry.Entry.{Entry}
use Rattle.plain_syntax.specs.Plain.{Text, Term, Terms, Keys, Fact}
use Rattle.plain_syntax.specs.Plain.Term.{term}
use Rattle.plain_syntax.specs.Plain.Shape.{name}
use Rattle.plain_syntax.specs.Plain.Fact.{step_name, whole}
use Rattle.plain_syntax.specs.Syntax.{Held, term_of, terms_of, except_of, shape_of, key_of, def_of, group_of, node_of, path_of}
use Rattle.plain_syntax.proofs.Forms.{held, by-form, is-name}
use Rattle.usable_facts.specs.Proofs.{facts, by_step, hidden, step_keys, entry_keys, fact_name, if_fact}

module _ (means : Place → Option ℕ) (cite : Place → Option ℕ) (entries : List Entry) where
  pub facts_first : (f : Fact) (fs : List Fact) → facts means cite entries (f ∷ fs) ≡ facts means cite entries (f ∷ []) ++ facts means cite entries fs
  facts_first (step_name l w p) fs = ap (λ x. x ++ facts means cite entries fs) (sym (append-nil (by_step means cite entries (cite p))))
  facts_first (whole p t) fs = refl

  pub hidden_first : (f : Fact) (fs : List Fact) → hidden means cite entries (f ∷ fs) ≡ hidden means cite entries (f ∷ []) ++ hidden means cite entries fs
  hidden_first (step_name l w p) fs = ap (λ x. x ++ hidden means cite entries fs) (sym (append-nil (step_keys means cite entries (cite p))))
  hidden_first (whole p t) fs = ap (λ x. x ++ hidden means cite entries fs) (sym (append-nil (entry_keys means cite entries (fact_name means cite entries t))))

  no-parts : (ns : List Node) → ns ≡ [] → terms_of (map term_of ns) ≡ Terms.none
  no-parts ns e = ap (λ l. terms_of (map term_of l)) e

  -- a name alone
  pub is_fact_name : (n : Node) (w : Text) → (out-Node n).form ≡ form.Name w → (out-Node n).parts ≡ [] → fact_name means cite entries (term_of n) ≡ if_fact means cite entries (means (out-Node n).place)
  is_fact_name n w e h = ap (fact_name means cite entries) (is-name n w e) ∙ ap (λ ts. fact_name means cite entries (term (name w) ts (out-Node n).place)) (no-parts (out-Node n).parts h)

  -- a name over arguments
  pub is_over : (n : Node) (w : Text) → (out-Node n).form ≡ form.Name w → ((out-Node n).parts ≡ [] → ⊥) → fact_name means cite entries (term_of n) ≡ None
  is_over n w e h = ap (fact_name means cite entries) (is-name n w e) ∙ some-part (out-Node n).parts h
    where
      some-part : (ns : List Node) → (ns ≡ [] → ⊥) → fact_name means cite entries (term (name w) (terms_of (map term_of ns)) (out-Node n).place) ≡ None
      some-part [] h = absurd (h refl)
      some-part (x ∷ ns) h = refl

  no-name-over : (ks : List Keys) (ts : List Term) (p : Place) → fact_name means cite entries (except_of ks ts p) ≡ None
  no-name-over ks [] p = refl
  no-name-over ks (t ∷ ts) p = refl

  other-form : (x : Form-F Form Key Def Group Node Path) (ts : List Term) (p : Place) → ((w : Text) → roll-Form x ≡ form.Name w → ⊥) → fact_name means cite entries (held (roll-Form x) ts p) ≡ None
  unfolding held
  other-form (Form-F.Name w) ts p h = absurd (h w (form.rolls-Name w))
  other-form (Form-F.Except ps) ts p h =
      ap (λ (g : Held). fact_name means cite entries (g ts p)) (fold-roll-Form _ _ _ _ _ _ shape_of key_of def_of group_of node_of path_of (Form-F.Except ps)) ∙ no-name-over _ ts p
  other-form x ts p h = ap (λ (g : Held). fact_name means cite entries (g ts p)) (fold-roll-Form _ _ _ _ _ _ shape_of key_of def_of group_of node_of path_of x)

  -- no name
  pub is_no_name : (n : Node) → ((w : Text) → (out-Node n).form ≡ form.Name w → ⊥) → fact_name means cite entries (term_of n) ≡ None
  is_no_name n h =
      let f = (out-Node n).form in
      ap (fact_name means cite entries) (by-form n (held f) refl)
      ∙ ap (λ g. fact_name means cite entries (held g (map term_of (out-Node n).parts) (out-Node n).place)) (sym (roll-out-Form f))
      ∙ other-form (out-Form f) (map term_of (out-Node n).parts) (out-Node n).place (λ w e. h w (sym (roll-out-Form f) ∙ e))
