-- The fields of a record.
use Rattle.std.proofs.Common.{◌≡◌, ℕ, Bool, true, false, not, ◌||◌, if◌then◌else◌, List, [], ◌∷◌, ◌++◌, map, refl, sym, ap, subst, ◌∙◌, true≢false}
use Rattle.std.specs.Borrow.{Bor}
use Rattle.std.specs.List.{list_any}
use Rattle.std.proofs.lemmas.List.{map-append}
use Rattle.indexmap.specs.IndexSet.{insert_key}
use Rattle.tla_ast.specs.declared.place.Place.{Place}
use Rattle.tla_ast.specs.declared.fault.Kind.TheVariants as kind
use Rattle.tla_ast.specs.declared.tree.Node.{Node, out-Node}
use Rattle.tla_ast.specs.declared.tree.Form.{out-Form, roll-Form, roll-out-Form}
use Rattle.tla_ast.specs.declared.tree.Form.TheFolds.{fold-roll-Form}
use Rattle.tla_ast.specs.declared.tree.Form.TheOpen.{Form-F}
use Rattle.tla_ast.specs.declared.tree.Form.TheVariants as form
use Rattle.plain_syntax.specs.Plain.{Text, Term, Keys}
use Rattle.plain_syntax.specs.Syntax.{Held, shape_of, key_of, def_of, group_of, node_of, path_of, term_of, except_of}
use Rattle.plain_syntax.proofs.Forms.{held, by-form, is-name}
use Rattle.expression_level.specs.Levels.{is_word}
use Rattle.module_scope.specs.Kept.{same_name}
use Rattle.module_scope.specs.Names.{Book, refused, has_field, with_field, with_head, head_names}

pub flip : (a b : Bool) → a ≡ not b → a ≡ true → b ≡ false
flip a true e f = absurd (true≢false (sym f ∙ e))
flip a false e f = refl

pub flop : (a b : Bool) → a ≡ not b → a ≡ false → b ≡ true
flop a true e f = refl
flop a false e f = absurd (true≢false (sym e ∙ f))

-- the set has a field exactly where it was named
pub listed : (k : Bor (List ℕ)) (ks : List (Bor (List ℕ))) → list_any (same_name k) ks ≡ has_field (map (λ x. x.now) ks) k.now
listed k [] = refl
listed k (x ∷ ks) = ap (λ b. is_word k.now x.now || b) (listed k ks)

inserted : (k : Bor (List ℕ)) (ks : List (Bor (List ℕ))) (b c : Bool) → b ≡ c
    → map (λ x. x.now) (if b then ks else ks ++ k ∷ []) ≡ (if c then map (λ x. x.now) ks else map (λ x. x.now) ks ++ k.now ∷ [])
inserted k ks b c e = ap (λ d. map (λ x. x.now) (if d then ks else ks ++ k ∷ [])) e ∙ same c
  where
    same : (d : Bool) → map (λ x. x.now) (if d then ks else ks ++ k ∷ []) ≡ (if d then map (λ x. x.now) ks else map (λ x. x.now) ks ++ k.now ∷ [])
    same true = refl
    same false = map-append (λ x. x.now) ks (k ∷ [])

module _ (n : Node) (seen : List Text) (b : Book) where
  pub head-name : (w : Text) → (out-Node n).form ≡ form.Name w → head_names seen (term_of n) b ≡ (if has_field seen w then refused (kind.Redeclared w) (out-Node n).place b else b)
  head-name w e = ap (λ t. head_names seen t b) (is-name n w e)

  pub with-name : (w : Text) → (out-Node n).form ≡ form.Name w → with_head seen (term_of n) ≡ with_field seen w
  with-name w e = ap (with_head seen) (is-name n w e)

  abbrev IsNoHead : Term → Type 0
  IsNoHead t = (b ≡ head_names seen t b) × (seen ≡ with_head seen t)

  excepted : (ks : List Keys) (ts : List Term) (p : Place) → IsNoHead (except_of ks ts p)
  excepted ks [] p = (refl, refl)
  excepted ks (t ∷ ts) p = (refl, refl)

  pub no-head : ((w : Text) → (out-Node n).form ≡ form.Name w → ⊥) → IsNoHead (term_of n)
  unfolding held
  no-head none =
      let f = (out-Node n).form in
      let as-form : (x : Form-F _ _ _ _ _ _) → out-Form f ≡ x → f ≡ roll-Form x = λ x e. sym (roll-out-Form f) ∙ ap roll-Form e in
      let made : (x : Form-F _ _ _ _ _ _) (h : Held) → out-Form f ≡ x → held (roll-Form x) ≡ h → IsNoHead (h (map term_of (out-Node n).parts) (out-Node n).place) → IsNoHead (held f (map term_of (out-Node n).parts) (out-Node n).place) =
      λ x h e g i. subst (λ (k : Held). IsNoHead (k (map term_of (out-Node n).parts) (out-Node n).place)) (sym (ap held (as-form x e) ∙ g)) i in
      subst IsNoHead (sym (by-form n (held f) refl))
      ((elim (out-Form f) as (λ x. out-Form f ≡ x → IsNoHead (held f (map term_of (out-Node n).parts) (out-Node n).place)) [
        | Form-F.Name w ↦ λ e. absurd (none w (as-form _ e ∙ form.rolls-Name w))
        | Form-F.Except ps ↦ λ e. made _ _ e (fold-roll-Form _ _ _ _ _ _ shape_of key_of def_of group_of node_of path_of _) (excepted _ (map term_of (out-Node n).parts) (out-Node n).place)
        | _ ↦ λ e. made _ _ e (fold-roll-Form _ _ _ _ _ _ shape_of key_of def_of group_of node_of path_of _) (refl, refl)
      ]) refl)

module _ (n : Node) (k : Bor (List ℕ)) (keys more : List (Bor (List ℕ))) (b : Book) (is : (out-Node n).form ≡ form.Name k.now) where
  pub texts-with : more ≡ insert_key same_name keys k → map (λ x. x.now) more ≡ with_head (map (λ x. x.now) keys) (term_of n)
  texts-with e = ap (map (λ x. x.now)) e ∙ inserted k keys (list_any (same_name k) keys) (has_field (map (λ x. x.now) keys) k.now) (listed k keys) ∙ sym (with-name n (map (λ x. x.now) keys) b k.now is)

  pub field-new : (a : Bool) → a ≡ not (list_any (same_name k) keys) → a ≡ true → b ≡ head_names (map (λ x. x.now) keys) (term_of n) b
  field-new a e t =
      sym (head-name n (map (λ x. x.now) keys) b k.now is ∙ ap (λ c. if c then refused (kind.Redeclared k.now) (out-Node n).place b else b) (sym (listed k keys) ∙ flip a _ e t))

  pub field-again : (a : Bool) → a ≡ not (list_any (same_name k) keys) → a ≡ false → refused (kind.Redeclared k.now) (out-Node n).place b ≡ head_names (map (λ x. x.now) keys) (term_of n) b
  field-again a e t =
      sym (head-name n (map (λ x. x.now) keys) b k.now is ∙ ap (λ c. if c then refused (kind.Redeclared k.now) (out-Node n).place b else b) (sym (listed k keys) ∙ flop a _ e t))
