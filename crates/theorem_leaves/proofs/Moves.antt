-- TAKE, PICK, WITNESS and DEFINE: the moves of the code are the steps that the definitions give.
use Rattle.std.proofs.Common.{◌≡◌, ℕ, Bool, true, false, if◌then◌else◌, List, [], ◌∷◌, ◌++◌, map, Option, Some, None, refl, sym, ap, ◌∙◌}
use Rattle.std.specs.Prelude.{codes}
use Rattle.std.specs.Option.{option_to_list}
use Rattle.std.proofs.lemmas.List.{map-append}
use Rattle.tla_ast.specs.declared.place.Place.{Place}
use Rattle.tla_ast.specs.declared.tree.Decl.{Decl}
use Rattle.tla_ast.specs.declared.tree.Node.{Node, out-Node}
use Rattle.tla_ast.specs.declared.tree.Group.{Group, out-Group}
use Rattle.tla_ast.specs.declared.tree.Path.{Path}
use Rattle.tla_ast.specs.declared.tree.Key.{Key}
use Rattle.tla_ast.specs.declared.tree.Def.{Def, out-Def}
use Rattle.tla_ast.specs.declared.tree.Form.{Form, out-Form, roll-Form, roll-out-Form}
use Rattle.tla_ast.specs.declared.tree.Form.TheFolds.{fold-roll-Form}
use Rattle.tla_ast.specs.declared.tree.Form.TheOpen.{Form-F}
use Rattle.tla_ast.specs.declared.tree.Form.TheVariants as form
use Rattle.core_expr.specs.declared.head.SymKind.TheVariants as kinds
use Rattle.core_expr.specs.Tree.{Tree}
use Rattle.plain_syntax.specs.Plain.{Text, Term, Keys, Groups, Defs}
use Rattle.plain_syntax.specs.Plain.Term.{term}
use Rattle.plain_syntax.specs.Plain.Terms.{none, part}
use Rattle.plain_syntax.specs.Plain.Shape.{infixed}
use Rattle.plain_syntax.specs.Syntax.{Held, term_of, terms_of, set_of, with_domain, each_group, each_def, except_of, shape_of, key_of, def_of, group_of, node_of, path_of}
use Rattle.plain_syntax.proofs.Forms.{held, by-form, is-infixed, is-group, is-def}
use Rattle.prime_expand.specs.Symbols.{is_word}
use Rattle.proof_contexts.specs.Steps as c
use Rattle.proof_contexts.specs.Steps.Step.{Take, TakeIn}
use Rattle.proof_contexts.specs.Steps.Item.{New, NewIn}
use Rattle.known_facts.specs.Shown.{sym_of, item_of, items_of}
use Rattle.proof_leaves.specs.Shown.{step_of}
use Rattle.usable_facts.specs.Keys.{listed}
use Rattle.usable_facts.specs.Proofs as spec
use Rattle.theorem_leaves.specs.declared.home.Home.{Home}
use Rattle.theorem_leaves.specs.Homes.{means, entries}
use Rattle.theorem_leaves.specs.Moves as moves

new-constant : (o : Option ℕ) → sym_of (moves.numbered kinds.Constant o) ≡ spec.symbol kinds.Constant o
new-constant None = refl
new-constant (Some n) = refl

module _ (h : Home) (cite : Place → Option ℕ) where
  -- ---- TAKE and PICK

  free-takes : (l : Option ℕ) (ds : List Decl) → map (step_of l) (map (moves.take h None) ds) ≡ map (λ d. Take (spec.constant (means h) cite (entries h) d)) ds
  free-takes l [] = refl
  free-takes l (d ∷ ds) = λ i. Take (new-constant (means h d.place) i) ∷ free-takes l ds i

  set-takes : (l : Option ℕ) (s : Tree) (ds : List Decl) → map (step_of l) (map (moves.take h (Some s)) ds) ≡ map (λ d. TakeIn l (spec.constant (means h) cite (entries h) d) s) ds
  set-takes l s [] = refl
  set-takes l s (d ∷ ds) = λ i. TakeIn l (new-constant (means h d.place) i) s ∷ set-takes l s ds i

  group-takes : (l : Option ℕ) (ds : List Decl) (o : Option Node) (gs : Groups)
      → map (step_of l) (map (moves.take h (spec.domain (means h) (entries h) (set_of o))) ds) ++ spec.takes (means h) cite (entries h) l gs
      ≡ spec.takes (means h) cite (entries h) l (with_domain ds (set_of o) gs)
  group-takes l ds None gs = ap (λ x. x ++ spec.takes (means h) cite (entries h) l gs) (free-takes l ds)
  group-takes l ds (Some n) gs = ap (λ x. x ++ spec.takes (means h) cite (entries h) l gs) (set-takes l (spec.core (means h) (entries h) (term_of n)) ds)

  pub takes_are : (l : Option ℕ) (gs : List Group) → map (step_of l) (moves.takes h gs) ≡ spec.takes (means h) cite (entries h) l (each_group gs)
  takes_are l [] = refl
  takes_are l (g ∷ gs) =
      map-append (step_of l) (moves.group_takes h g) (moves.takes h gs)
      ∙ ap (λ x. map (step_of l) (moves.group_takes h g) ++ x) (takes_are l gs)
      ∙ group-takes l (out-Group g).names (out-Group g).domain (each_group gs)
      ∙ ap (λ (f : Groups → Groups). spec.takes (means h) cite (entries h) l (f (each_group gs))) (sym (is-group g))

  free-choices : (ds : List Decl) → items_of (map (moves.choice h None) ds) ≡ map (λ d. New (spec.constant (means h) cite (entries h) d)) ds
  free-choices [] = refl
  free-choices (d ∷ ds) = λ i. New (new-constant (means h d.place) i) ∷ free-choices ds i

  set-choices : (s : Tree) (ds : List Decl) → items_of (map (moves.choice h (Some s)) ds) ≡ map (λ d. NewIn (spec.constant (means h) cite (entries h) d) s) ds
  set-choices s [] = refl
  set-choices s (d ∷ ds) = λ i. NewIn (new-constant (means h d.place) i) s ∷ set-choices s ds i

  group-choices : (ds : List Decl) (o : Option Node) (gs : Groups)
      → items_of (map (moves.choice h (spec.domain (means h) (entries h) (set_of o))) ds) ++ spec.chosen (means h) cite (entries h) gs
      ≡ spec.chosen (means h) cite (entries h) (with_domain ds (set_of o) gs)
  group-choices ds None gs = ap (λ x. x ++ spec.chosen (means h) cite (entries h) gs) (free-choices ds)
  group-choices ds (Some n) gs = ap (λ x. x ++ spec.chosen (means h) cite (entries h) gs) (set-choices (spec.core (means h) (entries h) (term_of n)) ds)

  pub choices_are : (gs : List Group) → items_of (moves.choices h gs) ≡ spec.chosen (means h) cite (entries h) (each_group gs)
  choices_are [] = refl
  choices_are (g ∷ gs) =
      map-append item_of (moves.group_choices h g) (moves.choices h gs)
      ∙ ap (λ x. items_of (moves.group_choices h g) ++ x) (choices_are gs)
      ∙ group-choices (out-Group g).names (out-Group g).domain (each_group gs)
      ∙ ap (λ (f : Groups → Groups). spec.chosen (means h) cite (entries h) (f (each_group gs))) (sym (is-group g))

  -- ---- WITNESS

  bounded : (l : Option ℕ) (b : Bool) (s t u : Term)
      → step_of l (moves.by_sides h (if b then Some (s, t) else None) u) ≡ (if b then c.Step.WitnessIn l (spec.core (means h) (entries h) s) (spec.core (means h) (entries h) t) else c.Step.Witness (spec.core (means h) (entries h) u))
  bounded l true s t u = refl
  bounded l false s t u = refl

  witness-is : (l : Option ℕ) (t : Term) → step_of l (moves.witness h t) ≡ spec.witness (means h) cite (entries h) l t
  witness-is l (term (infixed o) (part a (part b none)) p) = bounded l (is_word o (codes "\\in")) a b (term (infixed o) (part a (part b none)) p)
  witness-is l t = refl

  pub witnesses_are : (l : Option ℕ) (ns : List Node) → map (step_of l) (map (λ n. moves.witness h (term_of n)) ns) ≡ spec.witnesses (means h) cite (entries h) l (terms_of (map term_of ns))
  witnesses_are l [] = refl
  witnesses_are l (n ∷ ns) = λ i. witness-is l (term_of n) i ∷ witnesses_are l ns i

  -- ---- DEFINE

  pub defined_first : (d : Def) (ds : List Def) → spec.defined (means h) cite (entries h) (each_def (d ∷ ds)) ≡ option_to_list (means h (out-Def d).place) ++ spec.defined (means h) cite (entries h) (each_def ds)
  defined_first d ds = ap (λ (f : Defs → Defs). spec.defined (means h) cite (entries h) (f (each_def ds))) (is-def d) ∙ by-number (means h (out-Def d).place)
    where
      by-number : (o : Option ℕ) → listed o (spec.defined (means h) cite (entries h) (each_def ds)) ≡ option_to_list o ++ spec.defined (means h) cite (entries h) (each_def ds)
      by-number None = refl
      by-number (Some n) = refl

-- ---- the sides of \in

two-parts : (b : Bool) (o : Text) (ns : List Node) (p : Place) → is_word o (codes "\\in") ≡ b → (if b then moves.two ns else None) ≡ moves.sides (term (infixed o) (terms_of (map term_of ns)) p)
two-parts true o [] p e = refl
two-parts true o (a ∷ []) p e = refl
two-parts true o (a ∷ b ∷ []) p e = ap (λ x. if x then Some (term_of a, term_of b) else None) (sym e)
two-parts true o (a ∷ b ∷ x ∷ ns) p e = refl
two-parts false o [] p e = refl
two-parts false o (a ∷ []) p e = refl
two-parts false o (a ∷ b ∷ []) p e = ap (λ x. if x then Some (term_of a, term_of b) else None) (sym e)
two-parts false o (a ∷ b ∷ x ∷ ns) p e = refl

pub are_sides : (n : Node) (o : Text) → (out-Node n).form ≡ form.Infix o → is_word o (codes "\\in") ≡ true → moves.sides (term_of n) ≡ moves.two (out-Node n).parts
are_sides n o e h = ap moves.sides (is-infixed n o e) ∙ sym (two-parts true o (out-Node n).parts (out-Node n).place h)

pub other_sign : (n : Node) (o : Text) → (out-Node n).form ≡ form.Infix o → is_word o (codes "\\in") ≡ false → moves.sides (term_of n) ≡ None
other_sign n o e h = ap moves.sides (is-infixed n o e) ∙ sym (two-parts false o (out-Node n).parts (out-Node n).place h)

none-over : (ks : List Keys) (ts : List Term) (p : Place) → moves.sides (except_of ks ts p) ≡ None
none-over ks [] p = refl
none-over ks (t ∷ ts) p = refl

other-form : (x : Form-F Form Key Def Group Node Path) (ts : List Term) (p : Place) → ((o : Text) → roll-Form x ≡ form.Infix o → ⊥) → moves.sides (held (roll-Form x) ts p) ≡ None
unfolding held
other-form (Form-F.Infix o) ts p h = absurd (h o (form.rolls-Infix o))
other-form (Form-F.Except ps) ts p h =
    ap (λ (g : Held). moves.sides (g ts p)) (fold-roll-Form _ _ _ _ _ _ shape_of key_of def_of group_of node_of path_of (Form-F.Except ps)) ∙ none-over _ ts p
other-form x ts p h = ap (λ (g : Held). moves.sides (g ts p)) (fold-roll-Form _ _ _ _ _ _ shape_of key_of def_of group_of node_of path_of x)

pub no_sides : (n : Node) → ((o : Text) → (out-Node n).form ≡ form.Infix o → ⊥) → moves.sides (term_of n) ≡ None
no_sides n h =
    let f = (out-Node n).form in
    ap moves.sides (by-form n (held f) refl)
    ∙ ap (λ g. moves.sides (held g (map term_of (out-Node n).parts) (out-Node n).place)) (sym (roll-out-Form f))
    ∙ other-form (out-Form f) (map term_of (out-Node n).parts) (out-Node n).place (λ w e. h w (sym (roll-out-Form f) ∙ e))
