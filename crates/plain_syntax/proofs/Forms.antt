-- A node as plain data, form by form.
use Rattle.std.proofs.Common.{◌≡◌, ℕ, Bool, List, map, Option, Some, None, sym, ap, ◌∙◌}
use Rattle.tla_ast.specs.declared.tree.Decl.{Decl}
use Rattle.tla_ast.specs.declared.tree.Node.{Node, out-Node}
use Rattle.tla_ast.specs.declared.tree.Form.{Form, fold-Form}
use Rattle.tla_ast.specs.declared.tree.Form.TheFolds.{fold-roll-Form, fold-roll-Group, fold-roll-Key, fold_out-Node, fold_out-Def, fold_out-Path}
use Rattle.tla_ast.specs.declared.tree.Form.TheOpen.{Form-F, Key-F}
use Rattle.tla_ast.specs.declared.tree.Form.TheVariants as form
use Rattle.tla_ast.specs.declared.tree.Path.{Path, out-Path}
use Rattle.tla_ast.specs.declared.tree.Key.TheVariants as key
use Rattle.tla_ast.specs.declared.tree.Group.{Group, out-Group, roll-Group, roll-out-Group}
use Rattle.tla_ast.specs.declared.tree.Def.{Def, out-Def}
use Rattle.plain_syntax.specs.Plain.{Text, Term, Terms, Keys, Groups, Defs}
use Rattle.plain_syntax.specs.Plain.Term.{term}
use Rattle.plain_syntax.specs.Plain.Groups.{end_groups}
use Rattle.plain_syntax.specs.Plain.Defs.{def}
use Rattle.plain_syntax.specs.Plain.Shape.{name, call, number, text, prefixed, infixed, prime, index, field, enum, filter, image, tuple, function, functions, fields, field_sets, box, angle, junction, quantifier, choice, conditional, cases, local, at, fair}
use Rattle.plain_syntax.specs.Syntax.{Held, shape_of, key_of, def_of, group_of, node_of, path_of, term_of, terms_of, keys_of, key_keys, each_key, groups_of, defs_of, with_parts, with_domain, set_of, except_of, each_group, each_def}

-- the parts of a node
abbrev pub parts_in : Node → Terms
parts_in n = terms_of (map term_of (out-Node n).parts)

unfoldable pub held : Form → Held
held = fold-Form Held (Keys → Keys) (Defs → Defs) (Groups → Groups) Term Keys shape_of key_of def_of group_of node_of path_of

-- a node is what its form holds
pub by-form : (n : Node) (h : Held) → held (out-Node n).form ≡ h → term_of n ≡ h (map term_of (out-Node n).parts) (out-Node n).place
unfolding term_of held
by-form n h e = fold_out-Node _ _ _ _ _ _ shape_of key_of def_of group_of node_of path_of n ∙ ap (λ (g : Held). g (map term_of (out-Node n).parts) (out-Node n).place) e

pub is-name : (n : Node) (w : Text) → (out-Node n).form ≡ form.Name w → term_of n ≡ term (name w) (parts_in n) (out-Node n).place
unfolding held
is-name n w e = by-form n (with_parts (name w)) (ap held (e ∙ sym (form.rolls-Name w)) ∙ fold-roll-Form _ _ _ _ _ _ shape_of key_of def_of group_of node_of path_of (Form-F.Name w))

pub is-call : (n : Node) (w : Text) → (out-Node n).form ≡ form.Call w → term_of n ≡ term (call w) (parts_in n) (out-Node n).place
unfolding held
is-call n w e = by-form n (with_parts (call w)) (ap held (e ∙ sym (form.rolls-Call w)) ∙ fold-roll-Form _ _ _ _ _ _ shape_of key_of def_of group_of node_of path_of (Form-F.Call w))

pub is-number : (n : Node) (k : ℕ) → (out-Node n).form ≡ form.Number k → term_of n ≡ term (number k) (parts_in n) (out-Node n).place
unfolding held
is-number n k e = by-form n (with_parts (number k)) (ap held (e ∙ sym (form.rolls-Number k)) ∙ fold-roll-Form _ _ _ _ _ _ shape_of key_of def_of group_of node_of path_of (Form-F.Number k))

pub is-text : (n : Node) (s : Text) → (out-Node n).form ≡ form.Str s → term_of n ≡ term (text s) (parts_in n) (out-Node n).place
unfolding held
is-text n s e = by-form n (with_parts (text s)) (ap held (e ∙ sym (form.rolls-Str s)) ∙ fold-roll-Form _ _ _ _ _ _ shape_of key_of def_of group_of node_of path_of (Form-F.Str s))

pub is-prefixed : (n : Node) (o : Text) → (out-Node n).form ≡ form.Prefix o → term_of n ≡ term (prefixed o) (parts_in n) (out-Node n).place
unfolding held
is-prefixed n o e = by-form n (with_parts (prefixed o)) (ap held (e ∙ sym (form.rolls-Prefix o)) ∙ fold-roll-Form _ _ _ _ _ _ shape_of key_of def_of group_of node_of path_of (Form-F.Prefix o))

pub is-infixed : (n : Node) (o : Text) → (out-Node n).form ≡ form.Infix o → term_of n ≡ term (infixed o) (parts_in n) (out-Node n).place
unfolding held
is-infixed n o e = by-form n (with_parts (infixed o)) (ap held (e ∙ sym (form.rolls-Infix o)) ∙ fold-roll-Form _ _ _ _ _ _ shape_of key_of def_of group_of node_of path_of (Form-F.Infix o))

pub is-prime : (n : Node) → (out-Node n).form ≡ form.Prime → term_of n ≡ term prime (parts_in n) (out-Node n).place
unfolding held
is-prime n e = by-form n (with_parts prime) (ap held (e ∙ sym form.rolls-Prime) ∙ fold-roll-Form _ _ _ _ _ _ shape_of key_of def_of group_of node_of path_of Form-F.Prime)

pub is-index : (n : Node) → (out-Node n).form ≡ form.Index → term_of n ≡ term index (parts_in n) (out-Node n).place
unfolding held
is-index n e = by-form n (with_parts index) (ap held (e ∙ sym form.rolls-Index) ∙ fold-roll-Form _ _ _ _ _ _ shape_of key_of def_of group_of node_of path_of Form-F.Index)

pub is-field : (n : Node) (h : Text) → (out-Node n).form ≡ form.Field h → term_of n ≡ term (field h) (parts_in n) (out-Node n).place
unfolding held
is-field n h e = by-form n (with_parts (field h)) (ap held (e ∙ sym (form.rolls-Field h)) ∙ fold-roll-Form _ _ _ _ _ _ shape_of key_of def_of group_of node_of path_of (Form-F.Form::Field h))

pub is-enum : (n : Node) → (out-Node n).form ≡ form.Enum → term_of n ≡ term enum (parts_in n) (out-Node n).place
unfolding held
is-enum n e = by-form n (with_parts enum) (ap held (e ∙ sym form.rolls-Enum) ∙ fold-roll-Form _ _ _ _ _ _ shape_of key_of def_of group_of node_of path_of Form-F.Enum)

pub is-filter : (n : Node) (x : Text) → (out-Node n).form ≡ form.Filter x → term_of n ≡ term (filter x) (parts_in n) (out-Node n).place
unfolding held
is-filter n x e = by-form n (with_parts (filter x)) (ap held (e ∙ sym (form.rolls-Filter x)) ∙ fold-roll-Form _ _ _ _ _ _ shape_of key_of def_of group_of node_of path_of (Form-F.Filter x))

pub is-image : (n : Node) (x : Text) → (out-Node n).form ≡ form.Image x → term_of n ≡ term (image x) (parts_in n) (out-Node n).place
unfolding held
is-image n x e = by-form n (with_parts (image x)) (ap held (e ∙ sym (form.rolls-Image x)) ∙ fold-roll-Form _ _ _ _ _ _ shape_of key_of def_of group_of node_of path_of (Form-F.Image x))

pub is-tuple : (n : Node) → (out-Node n).form ≡ form.Tuple → term_of n ≡ term tuple (parts_in n) (out-Node n).place
unfolding held
is-tuple n e = by-form n (with_parts tuple) (ap held (e ∙ sym form.rolls-Tuple) ∙ fold-roll-Form _ _ _ _ _ _ shape_of key_of def_of group_of node_of path_of Form-F.Tuple)

pub is-function : (n : Node) (x : Text) → (out-Node n).form ≡ form.Function x → term_of n ≡ term (function x) (parts_in n) (out-Node n).place
unfolding held
is-function n x e = by-form n (with_parts (function x)) (ap held (e ∙ sym (form.rolls-Function x)) ∙ fold-roll-Form _ _ _ _ _ _ shape_of key_of def_of group_of node_of path_of (Form-F.Function x))

pub is-functions : (n : Node) → (out-Node n).form ≡ form.FunctionSet → term_of n ≡ term functions (parts_in n) (out-Node n).place
unfolding held
is-functions n e = by-form n (with_parts functions) (ap held (e ∙ sym form.rolls-FunctionSet) ∙ fold-roll-Form _ _ _ _ _ _ shape_of key_of def_of group_of node_of path_of Form-F.FunctionSet)

pub is-fields : (n : Node) (hs : List Text) → (out-Node n).form ≡ form.Record hs → term_of n ≡ term (fields hs) (parts_in n) (out-Node n).place
unfolding held
is-fields n hs e = by-form n (with_parts (fields hs)) (ap held (e ∙ sym (form.rolls-Record hs)) ∙ fold-roll-Form _ _ _ _ _ _ shape_of key_of def_of group_of node_of path_of (Form-F.Record hs))

pub is-field-sets : (n : Node) (hs : List Text) → (out-Node n).form ≡ form.RecordSet hs → term_of n ≡ term (field_sets hs) (parts_in n) (out-Node n).place
unfolding held
is-field-sets n hs e = by-form n (with_parts (field_sets hs)) (ap held (e ∙ sym (form.rolls-RecordSet hs)) ∙ fold-roll-Form _ _ _ _ _ _ shape_of key_of def_of group_of node_of path_of (Form-F.RecordSet hs))

pub is-box : (n : Node) → (out-Node n).form ≡ form.BoxAct → term_of n ≡ term box (parts_in n) (out-Node n).place
unfolding held
is-box n e = by-form n (with_parts box) (ap held (e ∙ sym form.rolls-BoxAct) ∙ fold-roll-Form _ _ _ _ _ _ shape_of key_of def_of group_of node_of path_of Form-F.BoxAct)

pub is-angle : (n : Node) → (out-Node n).form ≡ form.AngleAct → term_of n ≡ term angle (parts_in n) (out-Node n).place
unfolding held
is-angle n e = by-form n (with_parts angle) (ap held (e ∙ sym form.rolls-AngleAct) ∙ fold-roll-Form _ _ _ _ _ _ shape_of key_of def_of group_of node_of path_of Form-F.AngleAct)

pub is-junction : (n : Node) (all : Bool) → (out-Node n).form ≡ form.Junction all → term_of n ≡ term (junction all) (parts_in n) (out-Node n).place
unfolding held
is-junction n all e = by-form n (with_parts (junction all)) (ap held (e ∙ sym (form.rolls-Junction all)) ∙ fold-roll-Form _ _ _ _ _ _ shape_of key_of def_of group_of node_of path_of (Form-F.Junction all))

pub is-conditional : (n : Node) → (out-Node n).form ≡ form.If → term_of n ≡ term conditional (parts_in n) (out-Node n).place
unfolding held
is-conditional n e = by-form n (with_parts conditional) (ap held (e ∙ sym form.rolls-If) ∙ fold-roll-Form _ _ _ _ _ _ shape_of key_of def_of group_of node_of path_of Form-F.If)

pub is-cases : (n : Node) (other : Bool) → (out-Node n).form ≡ form.Case other → term_of n ≡ term (cases other) (parts_in n) (out-Node n).place
unfolding held
is-cases n other e = by-form n (with_parts (cases other)) (ap held (e ∙ sym (form.rolls-Case other)) ∙ fold-roll-Form _ _ _ _ _ _ shape_of key_of def_of group_of node_of path_of (Form-F.Case other))

pub is-at : (n : Node) → (out-Node n).form ≡ form.At → term_of n ≡ term at (parts_in n) (out-Node n).place
unfolding held
is-at n e = by-form n (with_parts at) (ap held (e ∙ sym form.rolls-At) ∙ fold-roll-Form _ _ _ _ _ _ shape_of key_of def_of group_of node_of path_of Form-F.Form::At)

pub is-fair : (n : Node) (strong : Bool) → (out-Node n).form ≡ form.Fair strong → term_of n ≡ term fair (parts_in n) (out-Node n).place
unfolding held
is-fair n strong e = by-form n (with_parts fair) (ap held (e ∙ sym (form.rolls-Fair strong)) ∙ fold-roll-Form _ _ _ _ _ _ shape_of key_of def_of group_of node_of path_of (Form-F.Fair strong))

pub is-quantifier : (n : Node) (all : Bool) (gs : List Group) → (out-Node n).form ≡ form.Quant all gs → term_of n ≡ term (quantifier all (each_group gs)) (parts_in n) (out-Node n).place
unfolding held groups_of
is-quantifier n all gs e =
    by-form n (with_parts (quantifier all (each_group gs))) (ap held (e ∙ sym (form.rolls-Quant all gs)) ∙ fold-roll-Form _ _ _ _ _ _ shape_of key_of def_of group_of node_of path_of (Form-F.Quant all gs))

pub is-choice : (n : Node) (g : Group) → (out-Node n).form ≡ form.Choose g → term_of n ≡ term (choice (groups_of g end_groups)) (parts_in n) (out-Node n).place
unfolding held groups_of
is-choice n g e = by-form n (with_parts (choice (groups_of g end_groups))) (ap held (e ∙ sym (form.rolls-Choose g)) ∙ fold-roll-Form _ _ _ _ _ _ shape_of key_of def_of group_of node_of path_of (Form-F.Choose g))

pub is-local : (n : Node) (ds : List Def) → (out-Node n).form ≡ form.Let ds → term_of n ≡ term (local (each_def ds)) (parts_in n) (out-Node n).place
unfolding held defs_of
is-local n ds e = by-form n (with_parts (local (each_def ds))) (ap held (e ∙ sym (form.rolls-Let ds)) ∙ fold-roll-Form _ _ _ _ _ _ shape_of key_of def_of group_of node_of path_of (Form-F.Let ds))

pub is-except : (n : Node) (ps : List Path) → (out-Node n).form ≡ form.Except ps → term_of n ≡ except_of (map keys_of ps) (map term_of (out-Node n).parts) (out-Node n).place
unfolding held keys_of
is-except n ps e = by-form n (except_of (map keys_of ps)) (ap held (e ∙ sym (form.rolls-Except ps)) ∙ fold-roll-Form _ _ _ _ _ _ shape_of key_of def_of group_of node_of path_of (Form-F.Except ps))

-- ---- what forms lead to

pub is-path : (p : Path) → keys_of p ≡ each_key (out-Path p).keys
unfolding keys_of key_keys
is-path p = fold_out-Path _ _ _ _ _ _ shape_of key_of def_of group_of node_of path_of p

pub is-key : (n : Node) → key_keys (key.At n) ≡ Keys.key (term_of n)
unfolding key_keys term_of
is-key n = ap key_keys (sym (key.rolls-At n)) ∙ fold-roll-Key _ _ _ _ _ _ shape_of key_of def_of group_of node_of path_of (Key-F.Key::At n)

pub is-field-key : (h : Text) → key_keys (key.Field h) ≡ Keys.field_key h
unfolding key_keys
is-field-key h = ap key_keys (sym (key.rolls-Field h)) ∙ fold-roll-Key _ _ _ _ _ _ shape_of key_of def_of group_of node_of path_of (Key-F.Key::Field h)

pub is-def : (d : Def) → defs_of d ≡ def (out-Def d).name (out-Def d).params (term_of (out-Def d).body) (out-Def d).place
unfolding defs_of term_of
is-def d = fold_out-Def _ _ _ _ _ _ shape_of key_of def_of group_of node_of path_of d

rolled-group : (ns : List Decl) (o : Option Node) → groups_of (roll-Group (record { names = ns; domain = o })) ≡ with_domain ns (set_of o)
unfolding groups_of term_of
rolled-group ns None = fold-roll-Group _ _ _ _ _ _ shape_of key_of def_of group_of node_of path_of (record { names = ns; domain = None })
rolled-group ns (Some n) = fold-roll-Group _ _ _ _ _ _ shape_of key_of def_of group_of node_of path_of (record { names = ns; domain = Some n })

pub is-group : (g : Group) → groups_of g ≡ with_domain (out-Group g).names (set_of (out-Group g).domain)
is-group g = ap groups_of (sym (roll-out-Group g)) ∙ rolled-group (out-Group g).names (out-Group g).domain
