-- The walk of the code over an expression is the walk of the definition.
use Rattle.std.proofs.Common.{◌≡◌, ◌≤◌, suc, OnOk, Result, List, [], ◌∷◌, fold, map, length, Option, Some, None, refl, sym, ap, subst, ◌∙◌, arith, Bool}
use Rattle.std.proofs.lemmas.Grind.{fold-append}
use Rattle.tla_ast.specs.declared.place.Place.{Place}
use Rattle.tla_ast.specs.declared.tree.Decl.{Decl}
use Rattle.tla_ast.specs.declared.tree.Node.{Node, out-Node}
use Rattle.tla_ast.specs.declared.tree.Form.{Form, out-Form, roll-Form, roll-out-Form}
use Rattle.tla_ast.specs.declared.tree.Form.TheFolds.{fold-roll-Form, fold-roll-Key}
use Rattle.tla_ast.specs.declared.tree.Form.TheOpen.{Form-F, Key-F}
use Rattle.tla_ast.specs.declared.tree.Form.TheVariants as form
use Rattle.tla_ast.specs.declared.tree.Form.TheVariants.{rolls-Prefix, rolls-Infix, rolls-Prime, rolls-Index, rolls-Field, rolls-Name, rolls-Call, rolls-Filter, rolls-Image, rolls-Function, rolls-Record, rolls-RecordSet, rolls-Except, rolls-Quant, rolls-Choose, rolls-Let}
use Rattle.tla_ast.specs.declared.tree.Key.{Key, out-Key, roll-Key, roll-out-Key}
use Rattle.tla_ast.specs.declared.tree.Path.{Path, out-Path}
use Rattle.tla_ast.specs.declared.tree.Group.{Group, out-Group}
use Rattle.tla_ast.specs.declared.tree.Def.{Def}
use Rattle.plain_syntax.specs.Plain.{Text, Term, Terms, Keys, Groups, Defs}
use Rattle.plain_syntax.specs.Plain.Term.{term}
use Rattle.plain_syntax.specs.Plain.Terms.{none, part}
use Rattle.plain_syntax.specs.Plain.{Shape as s}
use Rattle.plain_syntax.specs.Plain.Groups.{end_groups}
use Rattle.plain_syntax.specs.Plain.Keys.{end_keys}
use Rattle.plain_syntax.specs.Syntax.{Held, shape_of, key_of, def_of, group_of, node_of, path_of, term_of, terms_of, key_keys, keys_of, each_key, groups_of, each_group, defs_of, each_def, with_domain, set_of, except_of}
use Rattle.plain_syntax.specs.Order.{order, orders}
use Rattle.plain_syntax.proofs.Forms.{held, by-form, is-prefixed, is-infixed, is-prime, is-index, is-field, is-name, is-call, is-filter, is-image, is-function, is-fields, is-field-sets, is-except, is-quantifier, is-choice, is-local, is-path, is-group, is-def}
use Rattle.symbol_table.specs.declared.entry.EntrySort.{EntrySort}
use Rattle.symbol_table.specs.declared.entry.EntrySort.TheVariants as sorts
use Rattle.module_scope.specs.Names.{Book, scope_of, left, names, all_names, bound_names, set_names, bind_names, definitions, key_names, field_names, with_head, head_names, named, count, prefix_name, infix_name, each, declare_name, judged_bodies, group_sets, domain}
use Rattle.module_scope.specs.Known.{parts_in}
use Rattle.module_scope.specs.Visits.{visited, bind_group, domain_names, set_group, define_step, key_step, except_names, body_step, choice_set}

-- ---- operators, one after another

mutual
  pub in-order : (t : Term) (b : Book) → fold visited b (order t) ≡ names t b
  in-order (term (s.prefixed o) ts p) b = fold-append visited b (orders ts) (term (s.prefixed o) ts p ∷ []) ∙ ap (prefix_name o p) (all-in-order ts b)
  in-order (term (s.infixed o) ts p) b = fold-append visited b (orders ts) (term (s.infixed o) ts p ∷ []) ∙ ap (infix_name o p) (all-in-order ts b)
  in-order (term s.prime ts p) b = fold-append visited b (orders ts) (term s.prime ts p ∷ []) ∙ all-in-order ts b
  in-order (term s.index ts p) b = fold-append visited b (orders ts) (term s.index ts p ∷ []) ∙ all-in-order ts b
  in-order (term (s.field h) ts p) b = fold-append visited b (orders ts) (term (s.field h) ts p ∷ []) ∙ all-in-order ts b
  in-order (term (s.name w) ts p) b = refl
  in-order (term (s.call w) ts p) b = refl
  in-order (term (s.number n) ts p) b = refl
  in-order (term (s.text w) ts p) b = refl
  in-order (term s.enum ts p) b = refl
  in-order (term (s.filter x) ts p) b = refl
  in-order (term (s.image x) ts p) b = refl
  in-order (term s.tuple ts p) b = refl
  in-order (term (s.function x) ts p) b = refl
  in-order (term s.functions ts p) b = refl
  in-order (term (s.except us) ts p) b = refl
  in-order (term (s.fields hs) ts p) b = refl
  in-order (term (s.field_sets hs) ts p) b = refl
  in-order (term s.box ts p) b = refl
  in-order (term s.angle ts p) b = refl
  in-order (term (s.junction all) ts p) b = refl
  in-order (term (s.quantifier all gs) ts p) b = refl
  in-order (term (s.choice gs) ts p) b = refl
  in-order (term s.conditional ts p) b = refl
  in-order (term (s.cases other) ts p) b = refl
  in-order (term (s.local ds) ts p) b = refl
  in-order (term s.at ts p) b = refl
  in-order (term s.fair ts p) b = refl

  all-in-order : (ts : Terms) (b : Book) → fold visited b (orders ts) ≡ all_names ts b
  all-in-order none b = refl
  all-in-order (part t ts) b = fold-append visited b (order t) (orders ts) ∙ ap (λ c. fold visited c (orders ts)) (in-order t b) ∙ all-in-order ts (names t b)

-- ---- bounds, definitions and keys

binds-made : (s : EntrySort) (ns : List Decl) (o : Option Node) (rest : Groups) (b : Book) → bind_names s (with_domain ns (set_of o) rest) b ≡ bind_names s rest (each (declare_name s 0) ns b)
binds-made s ns None rest b = refl
binds-made s ns (Some n) rest b = refl

binds-one : (s : EntrySort) (g : Group) (rest : Groups) (b : Book) → bind_names s (groups_of g rest) b ≡ bind_names s rest (bind_group s b g)
binds-one s g rest b = ap (λ (f : Groups → Groups). bind_names s (f rest) b) (is-group g) ∙ binds-made s (out-Group g).names (out-Group g).domain rest b

pub binds-all : (s : EntrySort) (gs : List Group) (b : Book) → bind_names s (each_group gs) b ≡ fold (bind_group s) b gs
binds-all s [] b = refl
binds-all s (g ∷ gs) b = binds-one s g (each_group gs) b ∙ binds-all s gs (bind_group s b g)

sets-made : (ns : List Decl) (o : Option Node) (rest : Groups) (b : Book) → set_names (with_domain ns (set_of o) rest) b ≡ set_names rest (domain_names o b)
sets-made ns None rest b = refl
sets-made ns (Some n) rest b = refl

sets-one : (g : Group) (rest : Groups) (b : Book) → set_names (groups_of g rest) b ≡ set_names rest (set_group b g)
sets-one g rest b = ap (λ (f : Groups → Groups). set_names (f rest) b) (is-group g) ∙ sets-made (out-Group g).names (out-Group g).domain rest b

pub sets-all : (gs : List Group) (b : Book) → set_names (each_group gs) b ≡ fold set_group b gs
sets-all [] b = refl
sets-all (g ∷ gs) b = sets-one g (each_group gs) b ∙ sets-all gs (set_group b g)

pub defines-one : (d : Def) (rest : Defs) (b : Book) → definitions (defs_of d rest) b ≡ definitions rest (define_step b d)
defines-one d rest b = ap (λ (f : Defs → Defs). definitions (f rest) b) (is-def d)

pub defines-all : (ds : List Def) (b : Book) → definitions (each_def ds) b ≡ fold define_step b ds
defines-all [] b = refl
defines-all (d ∷ ds) b = defines-one d (each_def ds) b ∙ defines-all ds (define_step b d)

key-made : (x : Key-F Form Key Def Group Node Path) (rest : Keys) (b : Book) → key_names (key_keys (roll-Key x) rest) b ≡ key_names rest (key_names (key_keys (roll-Key x) end_keys) b)
unfolding key_keys
key-made (Key-F.Key::At n) rest b =
    let e = fold-roll-Key _ _ _ _ _ _ shape_of key_of def_of group_of node_of path_of (Key-F.Key::At n) in
    ap (λ (f : Keys → Keys). key_names (f rest) b) e ∙ sym (ap (λ (f : Keys → Keys). key_names rest (key_names (f end_keys) b)) e)
key-made (Key-F.Key::Field h) rest b =
    let e = fold-roll-Key _ _ _ _ _ _ shape_of key_of def_of group_of node_of path_of (Key-F.Key::Field h) in
    ap (λ (f : Keys → Keys). key_names (f rest) b) e ∙ sym (ap (λ (f : Keys → Keys). key_names rest (key_names (f end_keys) b)) e)

key-one : (k : Key) (rest : Keys) (b : Book) → key_names (key_keys k rest) b ≡ key_names rest (key_step b k)
key-one k rest b = subst (λ x. key_names (key_keys x rest) b ≡ key_names rest (key_step b x)) (roll-out-Key k) (key-made (out-Key k) rest b)

keys-each : (ks : List Key) (b : Book) → key_names (each_key ks) b ≡ fold key_step b ks
keys-each [] b = refl
keys-each (k ∷ ks) b = key-one k (each_key ks) b ∙ keys-each ks (key_step b k)

pub keys-all : (p : Path) (ks : List Key) (b : Book) → ks ≡ (out-Path p).keys → key_names (keys_of p) b ≡ fold key_step b ks
keys-all p ks b e = ap (λ l. key_names l b) (is-path p) ∙ keys-each (out-Path p).keys b ∙ ap (fold key_step b) (sym e)

-- ---- fields

-- a field and its expression
pub field-pair : (seen : List Text) (h t : Node) (ns : List Node) (b : Book)
    → field_names seen (terms_of (map term_of (h ∷ t ∷ ns))) b ≡ field_names (with_head seen (term_of h)) (terms_of (map term_of ns)) (names (term_of t) (head_names seen (term_of h) b))
field-pair seen h t ns b = refl

pub fields-end : (seen : List Text) (ns : List Node) (b : Book) → length ns ≤ 1 → field_names seen (terms_of (map term_of ns)) b ≡ b
fields-end seen [] b h = refl
fields-end seen (n ∷ []) b h = refl
fields-end seen (n ∷ m ∷ ns) b h = absurd (omega arith)

-- ---- an expression, form by form

module _ (n : Node) (b : Book) where
  pub visits-prefix : (o : Text) → (out-Node n).form ≡ form.Prefix o → visited b (term_of n) ≡ prefix_name o (out-Node n).place b
  visits-prefix o e = ap (visited b) (is-prefixed n o e)

  pub visits-infix : (o : Text) → (out-Node n).form ≡ form.Infix o → visited b (term_of n) ≡ infix_name o (out-Node n).place b
  visits-infix o e = ap (visited b) (is-infixed n o e)

  pub visits-prime : (out-Node n).form ≡ form.Prime → visited b (term_of n) ≡ b
  visits-prime e = ap (visited b) (is-prime n e)

  pub visits-index : (out-Node n).form ≡ form.Index → visited b (term_of n) ≡ b
  visits-index e = ap (visited b) (is-index n e)

  pub visits-field : (h : Text) → (out-Node n).form ≡ form.Field h → visited b (term_of n) ≡ b
  visits-field h e = ap (visited b) (is-field n h e)

  counted : (ns : List Node) → count (terms_of (map term_of ns)) ≡ length ns
  counted [] = refl
  counted (m ∷ ns) = ap suc (counted ns)

  pub visits-name : (w : Text) → (out-Node n).form ≡ form.Name w → visited b (term_of n) ≡ named w (length (out-Node n).parts) (out-Node n).place (all_names (parts_in n) b)
  visits-name w e = ap (visited b) (is-name n w e) ∙ ap (λ k. named w k (out-Node n).place (all_names (parts_in n) b)) (counted (out-Node n).parts)

  pub visits-call : (w : Text) → (out-Node n).form ≡ form.Call w → visited b (term_of n) ≡ named w (length (out-Node n).parts) (out-Node n).place (all_names (parts_in n) b)
  visits-call w e = ap (visited b) (is-call n w e) ∙ ap (λ k. named w k (out-Node n).place (all_names (parts_in n) b)) (counted (out-Node n).parts)

  pub visits-filter : (x : Text) → (out-Node n).form ≡ form.Filter x → visited b (term_of n) ≡ bound_names x (out-Node n).place (parts_in n) b
  visits-filter x e = ap (visited b) (is-filter n x e)

  pub visits-image : (x : Text) → (out-Node n).form ≡ form.Image x → visited b (term_of n) ≡ bound_names x (out-Node n).place (parts_in n) b
  visits-image x e = ap (visited b) (is-image n x e)

  pub visits-function : (x : Text) → (out-Node n).form ≡ form.Function x → visited b (term_of n) ≡ bound_names x (out-Node n).place (parts_in n) b
  visits-function x e = ap (visited b) (is-function n x e)

  pub visits-record : (hs : List Text) → (out-Node n).form ≡ form.Record hs → visited b (term_of n) ≡ field_names [] (parts_in n) b
  visits-record hs e = ap (visited b) (is-fields n hs e)

  pub visits-record-set : (hs : List Text) → (out-Node n).form ≡ form.RecordSet hs → visited b (term_of n) ≡ field_names [] (parts_in n) b
  visits-record-set hs e = ap (visited b) (is-field-sets n hs e)

  excepted : (ks : List Keys) (ts : List Term) (p : Place) → visited b (except_of ks ts p) ≡ except_names ks ts b
  excepted ks [] p = refl
  excepted ks (t ∷ ts) p = refl

  pub visits-except : (ps : List Path) → (out-Node n).form ≡ form.Except ps → visited b (term_of n) ≡ except_names (map keys_of ps) (map term_of (out-Node n).parts) b
  visits-except ps e = ap (visited b) (is-except n ps e) ∙ excepted (map keys_of ps) (map term_of (out-Node n).parts) (out-Node n).place

  pub visits-quant : (all : Bool) (gs : List Group) → (out-Node n).form ≡ form.Quant all gs
      → visited b (term_of n) ≡ left (length (scope_of (fold set_group b gs))) (all_names (parts_in n) (fold (bind_group sorts.Bound) (fold set_group b gs) gs))
  visits-quant all gs e =
      ap (visited b) (is-quantifier n all gs e)
      ∙ ap (λ c. left (length (scope_of c)) (all_names (parts_in n) (bind_names sorts.Bound (each_group gs) c))) (sets-all gs b)
      ∙ ap (λ c. left (length (scope_of (fold set_group b gs))) (all_names (parts_in n) c)) (binds-all sorts.Bound gs (fold set_group b gs))

  pub visits-choose : (g : Group) → (out-Node n).form ≡ form.Choose g
      → visited b (term_of n) ≡ left (length (scope_of (set_group b g))) (all_names (parts_in n) (bind_group sorts.Bound (set_group b g) g))
  visits-choose g e =
      ap (visited b) (is-choice n g e)
      ∙ ap (λ c. left (length (scope_of c)) (all_names (parts_in n) (bind_names sorts.Bound (groups_of g end_groups) c))) (sets-one g end_groups b)
      ∙ ap (λ c. left (length (scope_of (set_group b g))) (all_names (parts_in n) c)) (binds-one sorts.Bound g end_groups (set_group b g))

  pub visits-let : (ds : List Def) → (out-Node n).form ≡ form.Let ds → visited b (term_of n) ≡ left (length (scope_of b)) (all_names (parts_in n) (fold define_step b ds))
  visits-let ds e =
      ap (visited b) (is-local n ds e) ∙ ap (λ c. left (length (scope_of b)) (all_names (parts_in n) c)) (defines-all ds b)

  -- a node that has none of these forms
  abbrev pub IsOther : Type 0
  IsOther =
      ((w : Text) → (out-Node n).form ≡ form.Prefix w → ⊥) × ((w : Text) → (out-Node n).form ≡ form.Infix w → ⊥) × ((out-Node n).form ≡ form.Prime → ⊥) × ((out-Node n).form ≡ form.Index → ⊥)
      × ((h : Text) → (out-Node n).form ≡ form.Field h → ⊥) × ((w : Text) → (out-Node n).form ≡ form.Name w → ⊥) × ((w : Text) → (out-Node n).form ≡ form.Call w → ⊥)
      × ((w : Text) → (out-Node n).form ≡ form.Filter w → ⊥) × ((w : Text) → (out-Node n).form ≡ form.Image w → ⊥) × ((w : Text) → (out-Node n).form ≡ form.Function w → ⊥)
      × ((hs : List Text) → (out-Node n).form ≡ form.Record hs → ⊥) × ((hs : List Text) → (out-Node n).form ≡ form.RecordSet hs → ⊥) × ((ps : List Path) → (out-Node n).form ≡ form.Except ps → ⊥)
      × ((a : Bool) (gs : List Group) → (out-Node n).form ≡ form.Quant a gs → ⊥) × ((g : Group) → (out-Node n).form ≡ form.Choose g → ⊥) × ((ds : List Def) → (out-Node n).form ≡ form.Let ds → ⊥)

  pub visits-other : IsOther → visited b (term_of n) ≡ all_names (parts_in n) b
  unfolding held
  visits-other (prefix, infix_, prime, index, field, name_, call_, filter_, image_, function_, fields, sets, except, quant, choose, let_) =
      let f = (out-Node n).form in
      let as-form : (x : Form-F Form Key Def Group Node Path) → out-Form f ≡ x → f ≡ roll-Form x = λ x e. sym (roll-out-Form f) ∙ ap roll-Form e in
      ap (visited b) (by-form n (held f) refl) ∙
      (elim (out-Form f) as (λ x. out-Form f ≡ x → visited b (held f (map term_of (out-Node n).parts) (out-Node n).place) ≡ all_names (parts_in n) b) [
        | Form-F.Prefix w ↦ λ e. absurd (prefix w (as-form _ e ∙ rolls-Prefix w))
        | Form-F.Infix w ↦ λ e. absurd (infix_ w (as-form _ e ∙ rolls-Infix w))
        | Form-F.Prime ↦ λ e. absurd (prime (as-form _ e ∙ rolls-Prime))
        | Form-F.Index ↦ λ e. absurd (index (as-form _ e ∙ rolls-Index))
        | Form-F.Form::Field h ↦ λ e. absurd (field h (as-form _ e ∙ rolls-Field h))
        | Form-F.Name w ↦ λ e. absurd (name_ w (as-form _ e ∙ rolls-Name w))
        | Form-F.Call w ↦ λ e. absurd (call_ w (as-form _ e ∙ rolls-Call w))
        | Form-F.Filter w ↦ λ e. absurd (filter_ w (as-form _ e ∙ rolls-Filter w))
        | Form-F.Image w ↦ λ e. absurd (image_ w (as-form _ e ∙ rolls-Image w))
        | Form-F.Function w ↦ λ e. absurd (function_ w (as-form _ e ∙ rolls-Function w))
        | Form-F.Record hs ↦ λ e. absurd (fields hs (as-form _ e ∙ rolls-Record hs))
        | Form-F.RecordSet hs ↦ λ e. absurd (sets hs (as-form _ e ∙ rolls-RecordSet hs))
        | Form-F.Except ps ↦ λ e. absurd (except ps (as-form _ e ∙ rolls-Except ps))
        | Form-F.Quant a gs ↦ λ e. absurd (quant a gs (as-form _ e ∙ rolls-Quant a gs))
        | Form-F.Choose g ↦ λ e. absurd (choose g (as-form _ e ∙ rolls-Choose g))
        | Form-F.Let ds ↦ λ e. absurd (let_ ds (as-form _ e ∙ rolls-Let ds))
        | _ ↦ λ e. ap (λ (h : Held). visited b (h (map term_of (out-Node n).parts) (out-Node n).place))
            (ap held (as-form _ e) ∙ fold-roll-Form _ _ _ _ _ _ shape_of key_of def_of group_of node_of path_of _)
      ]) refl

pub because : {T E : Type 0} (r : Result T E) (x y z : Book) → y ≡ z → OnOk r (x ≡ z) → OnOk r (x ≡ y)
because r x y z e h = subst (λ w. OnOk r (x ≡ w)) (sym e) h

-- ---- definitions and choices of proofs

pub judges-all : (ds : List Def) (b : Book) → judged_bodies (each_def ds) b ≡ fold body_step b ds
judges-all [] b = refl
judges-all (d ∷ ds) b = ap (λ (f : Defs → Defs). judged_bodies (f (each_def ds)) b) (is-def d) ∙ judges-all ds (body_step b d)

choices-made : (ns : List Decl) (o : Option Node) (rest : Groups) (b : Book) → group_sets (with_domain ns (set_of o) rest) b ≡ group_sets rest (domain (set_of o) b)
choices-made ns None rest b = refl
choices-made ns (Some n) rest b = refl

pub choices-all : (gs : List Group) (b : Book) → group_sets (each_group gs) b ≡ fold choice_set b gs
choices-all [] b = refl
choices-all (g ∷ gs) b =
    ap (λ (f : Groups → Groups). group_sets (f (each_group gs)) b) (is-group g) ∙ choices-made (out-Group g).names (out-Group g).domain (each_group gs) b ∙ choices-all gs (choice_set b g)
