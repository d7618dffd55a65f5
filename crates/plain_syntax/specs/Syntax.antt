-- The plain data of the source's trees.
use Rattle.std.specs.Prelude.{List, [], ◌∷◌, map, Option, Some, None}
use Rattle.tla_ast.specs.declared.place.Place.{Place}
use Rattle.tla_ast.specs.declared.tree.Decl.{Decl}
use Rattle.tla_ast.specs.declared.tree.Node.{Node, fold-Node}
use Rattle.tla_ast.specs.declared.tree.Form.TheOpen.{Form-F, Key-F, Def-F, Group-F, Node-F, Path-F}
use Rattle.tla_ast.specs.declared.tree.Def.{Def, fold-Def}
use Rattle.tla_ast.specs.declared.tree.Key.{Key, fold-Key}
use Rattle.tla_ast.specs.declared.tree.Path.{Path, fold-Path}
use Rattle.tla_ast.specs.declared.tree.Group.{Group, fold-Group}
use Rattle.tla_ast.specs.declared.unit.Fact.{Fact}
use Rattle.tla_ast.specs.declared.unit.Fact.TheVariants as fact
use Rattle.tla_ast.specs.declared.unit.Item.{Item}
use Rattle.tla_ast.specs.declared.unit.Item.TheVariants as item
use Rattle.tla_ast.specs.declared.unit.Statement.{Statement}
use Rattle.tla_ast.specs.declared.unit.StepKind.{StepKind}
use Rattle.tla_ast.specs.declared.unit.StepKind.TheVariants as k
use Rattle.tla_ast.specs.declared.unit.Proof.{Proof, fold-Proof}
use Rattle.tla_ast.specs.declared.unit.Proof.TheOpen.{Proof-F, Step-F}
use Rattle.tla_ast.specs.declared.unit.Unit.{Unit}
use Rattle.tla_ast.specs.declared.unit.UnitKind.{UnitKind}
use Rattle.tla_ast.specs.declared.unit.UnitKind.TheVariants as u
use Rattle.tla_ast.specs.declared.unit.Module.{Module}
use Rattle.plain_syntax.specs.Plain as plain
use Rattle.plain_syntax.specs.Plain.{Term, Terms, Shape, Updates, Keys, Groups, Defs, Steps}
use Rattle.plain_syntax.specs.Plain.Term.{term}
use Rattle.plain_syntax.specs.Plain.Terms.{none, part}
use Rattle.plain_syntax.specs.Plain.Shape.{name, call, number, text, prefixed, infixed, prime, index, field, enum, filter, image, tuple, function, functions, except, fields, field_sets, box, angle, junction, quantifier, choice, conditional, cases, local, at, fair}
use Rattle.plain_syntax.specs.Plain.Updates.{end_updates, update}
use Rattle.plain_syntax.specs.Plain.Keys.{end_keys, key, field_key}
use Rattle.plain_syntax.specs.Plain.Groups.{end_groups, free, within}
use Rattle.plain_syntax.specs.Plain.Defs.{end_defs, def}
use Rattle.plain_syntax.specs.Plain.Steps.{end_steps, step}

-- ---- from the source's nodes

abbrev pub terms_of : List Term → Terms
terms_of [] = none
terms_of (t ∷ ts) = part t (terms_of ts)

abbrev pub joined : {A : Type 0} → A → List (A → A) → A
joined z [] = z
joined z (f ∷ fs) = f (joined z fs)

-- a node by its parts and its place
abbrev pub Held : Type 0
Held = List Term → Place → Term

abbrev pub updates_of : List Keys → List Term → Updates
updates_of [] ts = end_updates
updates_of (k ∷ ks) [] = end_updates
updates_of (k ∷ ks) (t ∷ ts) = update k t (updates_of ks ts)

abbrev pub except_of : List Keys → Held
except_of ks [] p = term (except end_updates) none p
except_of ks (t ∷ ts) p = term (except (updates_of ks ts)) (part t none) p

abbrev pub with_parts : Shape → Held
with_parts s ts p = term s (terms_of ts) p

-- what a form holds, where what it holds is read already
abbrev pub shape_of : Form-F Held (Keys → Keys) (Defs → Defs) (Groups → Groups) Term Keys → Held
shape_of (Form-F.Name w) = with_parts (name w)
shape_of (Form-F.Call w) = with_parts (call w)
shape_of (Form-F.Number n) = with_parts (number n)
shape_of (Form-F.Str s) = with_parts (text s)
shape_of (Form-F.Prefix o) = with_parts (prefixed o)
shape_of (Form-F.Infix o) = with_parts (infixed o)
shape_of Form-F.Prime = with_parts prime
shape_of Form-F.Index = with_parts index
shape_of (Form-F.Form::Field h) = with_parts (field h)
shape_of Form-F.Enum = with_parts enum
shape_of (Form-F.Filter x) = with_parts (filter x)
shape_of (Form-F.Image x) = with_parts (image x)
shape_of Form-F.Tuple = with_parts tuple
shape_of (Form-F.Function x) = with_parts (function x)
shape_of Form-F.FunctionSet = with_parts functions
shape_of (Form-F.Except ps) = except_of ps
shape_of (Form-F.Record hs) = with_parts (fields hs)
shape_of (Form-F.RecordSet hs) = with_parts (field_sets hs)
shape_of Form-F.BoxAct = with_parts box
shape_of Form-F.AngleAct = with_parts angle
shape_of (Form-F.Junction all) = with_parts (junction all)
shape_of (Form-F.Quant all gs) = with_parts (quantifier all (joined end_groups gs))
shape_of (Form-F.Choose g) = with_parts (choice (g end_groups))
shape_of Form-F.If = with_parts conditional
shape_of (Form-F.Case other) = with_parts (cases other)
shape_of (Form-F.Let ds) = with_parts (local (joined end_defs ds))
shape_of Form-F.Form::At = with_parts at
shape_of (Form-F.Fair strong) = with_parts fair

abbrev pub key_of : Key-F Held (Keys → Keys) (Defs → Defs) (Groups → Groups) Term Keys → Keys → Keys
key_of (Key-F.Key::At t) = key t
key_of (Key-F.Key::Field h) = field_key h

abbrev pub def_of : Def-F Held (Keys → Keys) (Defs → Defs) (Groups → Groups) Term Keys → Defs → Defs
def_of d = def d.name d.params d.body d.place

abbrev pub with_domain : List Decl → Option Term → Groups → Groups
with_domain names None = free names
with_domain names (Some s) = within names s

abbrev pub group_of : Group-F Held (Keys → Keys) (Defs → Defs) (Groups → Groups) Term Keys → Groups → Groups
group_of g = with_domain g.names g.domain

abbrev pub node_of : Node-F Held (Keys → Keys) (Defs → Defs) (Groups → Groups) Term Keys → Term
node_of n = n.form n.parts n.place

abbrev pub path_of : Path-F Held (Keys → Keys) (Defs → Defs) (Groups → Groups) Term Keys → Keys
path_of p = joined end_keys p.keys

unfoldable pub term_of : Node → Term
term_of = fold-Node Held (Keys → Keys) (Defs → Defs) (Groups → Groups) Term Keys shape_of key_of def_of group_of node_of path_of

unfoldable pub defs_of : Def → Defs → Defs
defs_of = fold-Def Held (Keys → Keys) (Defs → Defs) (Groups → Groups) Term Keys shape_of key_of def_of group_of node_of path_of

unfoldable pub groups_of : Group → Groups → Groups
groups_of = fold-Group Held (Keys → Keys) (Defs → Defs) (Groups → Groups) Term Keys shape_of key_of def_of group_of node_of path_of

unfoldable pub keys_of : Path → Keys
keys_of = fold-Path Held (Keys → Keys) (Defs → Defs) (Groups → Groups) Term Keys shape_of key_of def_of group_of node_of path_of

unfoldable pub key_keys : Key → Keys → Keys
key_keys = fold-Key Held (Keys → Keys) (Defs → Defs) (Groups → Groups) Term Keys shape_of key_of def_of group_of node_of path_of

abbrev pub each_key : List Key → Keys
each_key ks = joined end_keys (map key_keys ks)

-- ---- proofs and units

abbrev pub each_def : List Def → Defs
each_def ds = joined end_defs (map defs_of ds)

abbrev pub each_group : List Group → Groups
each_group gs = joined end_groups (map groups_of gs)

abbrev pub set_of : Option Node → Option Term
set_of None = None
set_of (Some n) = Some (term_of n)

abbrev pub item_of : Item → plain.Item
item_of (item.New s d n) = plain.Item.new s d (set_of n)
item_of (item.Given n) = plain.Item.given (term_of n)

abbrev pub statement_of : Statement → plain.Statement
statement_of s = record { items = map item_of s.items; goal = term_of s.goal }

abbrev pub fact_of : Fact → plain.Fact
fact_of (fact.StepName l w p) = plain.Fact.step_name l w p
fact_of (fact.Plain p n) = plain.Fact.whole p (term_of n)

abbrev pub move_of : StepKind → plain.Move
move_of (k.Assert s) = plain.Move.assert (statement_of s)
move_of (k.Case n) = plain.Move.case (term_of n)
move_of (k.Suffices s) = plain.Move.suffices (statement_of s)
move_of (k.Have n) = plain.Move.have (term_of n)
move_of (k.Take gs) = plain.Move.take (each_group gs)
move_of (k.Witness ns) = plain.Move.witness (terms_of (map term_of ns))
move_of (k.Pick gs n) = plain.Move.pick (each_group gs) (term_of n)
move_of (k.Define ds) = plain.Move.define (each_def ds)
move_of (k.Add fs ds) = plain.Move.add (map fact_of fs) ds
move_of (k.Hide fs ds) = plain.Move.hide (map fact_of fs) ds
move_of k.Qed = plain.Move.qed

abbrev pub proof_step : Proof-F plain.Proof (Steps → Steps) → plain.Proof
proof_step Proof-F.Missing = plain.Proof.missing
proof_step (Proof-F.Obvious p) = plain.Proof.obvious p
proof_step (Proof-F.Omitted p) = plain.Proof.omitted p
proof_step (Proof-F.By p only facts defs) = plain.Proof.by_facts p only (map fact_of facts) defs
proof_step (Proof-F.Steps ss) = plain.Proof.steps (joined end_steps ss)

abbrev pub step_step : Step-F plain.Proof (Steps → Steps) → Steps → Steps
step_step s = step s.place s.level s.label (move_of s.kind) s.proof

unfoldable pub proof_of : Proof → plain.Proof
proof_of = fold-Proof plain.Proof (Steps → Steps) proof_step step_step

abbrev pub kind_of : UnitKind → plain.UnitKind
kind_of (u.Constants ds) = plain.UnitKind.constants ds
kind_of (u.Variables ds) = plain.UnitKind.variables ds
kind_of (u.Assume w n) = plain.UnitKind.assume w (term_of n)
kind_of (u.Define d) = plain.UnitKind.definition (defs_of d end_defs)
kind_of (u.Theorem w s p) = plain.UnitKind.theorem w (statement_of s) (proof_of p)

abbrev pub unit_of : Unit → plain.Unit
unit_of x = record { place = x.place; kind = kind_of x.kind }

abbrev pub module_of : Module → plain.Module
module_of m = record { name = m.name; header = m.header; extends = m.extends; units = map unit_of m.units }
