-- The grammar of modules: which tokens, in which order, are a spelling of a module.
use Rattle.std.specs.Prelude.{◌≡◌, ℕ, zero, suc, Bool, true, false, if◌then◌else◌, List, [], ◌∷◌, ◌++◌, map, Option, Some, None}
use Rattle.proof_parser.specs.Names.{Place, Token, Node, Decl, Group, Item, Statement, Fact, Proof, Step, out-Step, StepKind, ModuleUnit, UnitKind, Module, is_last, Mark, Text}
use Rattle.tla_ast.specs.declared.token.Tok.TheVariants as tok
use Rattle.tla_ast.specs.declared.tree.Form.TheVariants as form
use Rattle.tla_ast.specs.declared.unit.Sort.TheVariants as sort
use Rattle.tla_ast.specs.declared.unit.Item.TheVariants as item
use Rattle.tla_ast.specs.declared.unit.Fact.TheVariants as fact
use Rattle.tla_ast.specs.declared.unit.Proof.TheVariants as proof
use Rattle.tla_ast.specs.declared.unit.StepKind.TheVariants as kind
use Rattle.tla_ast.specs.declared.unit.UnitKind.TheVariants as unit
use Rattle.token_reader.specs.declared.mark.Mark.TheVariants as m
use Rattle.token_reader.specs.Input.{Tokens, first}
use Rattle.layout_parser.specs.Reading.{node, group}
use Rattle.layout_parser.specs.Spelling as spell
use Rattle.proof_parser.specs.Modules.{is_deeper, has_proof, is_qed, step_of, extended}

-- ---- symbols

-- What a rule of the grammar is made of: one token (as the grammar of expressions has it, or that of a step); no token, where the
-- next stands at a place; symbols of the grammar of expressions, in no bracket; and what has rules of its own. A test says whether
-- facts are those of HIDE. A proof has the levels of the proofs round it, the innermost first; before them steps and a step have that
-- of their own proof.
pub data Symbol : Type 0 where
  one : spell.Symbol → Symbol
  step_token : ℕ → Text → Place → Symbol
  at : Place → Symbol
  phrase : spell.Symbols → Symbol
  an_item : Item → Symbol
  a_statement : Statement → Symbol
  a_fact : Bool → Fact → Symbol
  cited : Bool → List Fact × List Decl → Symbol
  groups : List Group → Symbol
  a_kind : StepKind → Symbol
  a_proof : List ℕ → Proof → Symbol
  body : List ℕ → Proof → Symbol
  steps : List ℕ → List Step → Symbol
  a_step : List ℕ → Step → Symbol
  a_unit : UnitKind → Symbol
  units : List ModuleUnit → Symbol

abbrev pub Symbols : Type 0
Symbols = List Symbol

-- the token is this symbol
abbrev pub Fits : Symbol → Token → Type 0
Fits (one y) t = spell.Fits y t
Fits (step_token level label place) t = (t.tok ≡ tok.Step level label) × (t.place ≡ place)
Fits _ t = ⊥

abbrev pub sign : Mark → Symbol
sign k = one (spell.sign k)

abbrev pub sign_at : Mark → Place → Symbol
sign_at k place = one (spell.sign_at k place)

-- a word that may be left out
abbrev pub optional : Mark → Bool → Symbols → Symbols
optional k is_there ys = if is_there then sign k ∷ ys else ys

-- an expression that stands in no bracket
abbrev pub same : Node → spell.Symbol
same = spell.same 0 false

abbrev pub expression : Node → Symbol
expression n = phrase (same n ∷ [])

-- one or more of these, with commas between, and then more symbols
abbrev pub listed : {A : Type 0} → (A → Symbol) → A → List A → Symbols → Symbols
listed y x [] ys = y x ∷ ys
listed y x (z ∷ zs) ys = y x ∷ sign m.Comma ∷ listed y z zs ys

-- ---- phrases

-- `_`, and so many more of them, with commas between
abbrev pub blanks : ℕ → spell.Symbols
blanks zero = spell.sign m.Underscore ∷ []
blanks (suc n) = spell.sign m.Underscore ∷ spell.sign m.Comma ∷ blanks n

-- the `_` for the arguments of a constant, where it has any
abbrev pub arguments : ℕ → spell.Symbols
arguments zero = []
arguments (suc n) = spell.sign m.OpenParen ∷ (blanks n ++ spell.sign m.CloseParen ∷ [])

abbrev pub constant : Decl → spell.Symbols
constant d = spell.declared (record d { arity = 0 }) ∷ arguments d.arity

abbrev pub constants : Decl → List Decl → spell.Symbols
constants d ds = spell.between spell.comma (constant d) (map constant ds)

-- a word and names, where there are any
abbrev pub names_after : Mark → List Decl → Symbols → Symbols
names_after k [] ys = ys
names_after k (d ∷ ds) ys = sign k ∷ phrase (spell.names d ds) ∷ ys

-- the name of a unit, where it has one
abbrev pub name_of : Option Decl → Symbols → Symbols
name_of None ys = ys
name_of (Some d) ys = phrase (spell.declared d ∷ spell.sign m.Defines ∷ []) ∷ ys

-- ---- rules

-- the symbol is made of these symbols, in this order
pub data Made : Symbol → Symbols → Type 0 where
  -- items and statements
  new_constant : (worded : Bool) (d : Decl) (set : Option Node)
      → Made (an_item (item.New sort.Constant d set)) (sign m.New ∷ optional m.Constant worded (phrase (spell.declared d ∷ spell.set_of 0 false set) ∷ []))
  new_variable : (d : Decl) → Made (an_item (item.New sort.Variable d None)) (sign m.New ∷ sign m.Variable ∷ phrase (spell.declared d ∷ []) ∷ [])
  new_state : (d : Decl) → Made (an_item (item.New sort.State d None)) (sign m.New ∷ sign m.State ∷ phrase (spell.declared d ∷ []) ∷ [])
  given : (n : Node) → Made (an_item (item.Given n)) (expression n ∷ [])
  goal_alone : (g : Node) → Made (a_statement (record { items = []; goal = g })) (expression g ∷ [])
  assuming : (x : Item) (xs : List Item) (g : Node)
      → Made (a_statement (record { items = x ∷ xs; goal = g })) (sign m.Assume ∷ listed an_item x xs (sign m.Prove ∷ expression g ∷ []))
  -- facts
  step_name : (hides : Bool) (level : ℕ) (label : Text) (place : Place) → Made (a_fact hides (fact.StepName level label place)) (step_token level label place ∷ [])
  plain_fact : (place : Place) (e : Node) → Made (a_fact false (fact.Plain place e)) (at place ∷ expression e ∷ [])
  hidden : (x : Text) (place : Place) → Made (a_fact true (fact.Plain place (node (form.Name x) [] place))) (one (spell.word m.Name x place) ∷ [])
  names_alone : (hides : Bool) (d : Decl) (ds : List Decl) → Made (cited hides ([], d ∷ ds)) (names_after m.Def (d ∷ ds) [])
  facts_first : (hides : Bool) (f : Fact) (fs : List Fact) (ds : List Decl) → Made (cited hides (f ∷ fs, ds)) (listed (a_fact hides) f fs (names_after m.Def ds []))
  -- bound names
  with_sets : (b : spell.Bound) (bs : List spell.Bound) → Made (groups (map spell.group_of (b ∷ bs))) (phrase (spell.bounds 0 false b bs) ∷ [])
  without_set : (d : Decl) (ds : List Decl) → Made (groups (group (d ∷ ds) None ∷ [])) (phrase (spell.names d ds) ∷ [])
  -- kinds of steps
  asserts : (s : Statement) → Made (a_kind (kind.Assert s)) (a_statement s ∷ [])
  case : (e : Node) → Made (a_kind (kind.Case e)) (sign m.Case ∷ expression e ∷ [])
  suffices : (s : Statement) → Made (a_kind (kind.Suffices s)) (sign m.Suffices ∷ a_statement s ∷ [])
  have : (e : Node) → Made (a_kind (kind.Have e)) (sign m.Have ∷ expression e ∷ [])
  takes : (gs : List Group) → Made (a_kind (kind.Take gs)) (sign m.Take ∷ groups gs ∷ [])
  witness : (x : Node) (xs : List Node) → Made (a_kind (kind.Witness (x ∷ xs))) (sign m.Witness ∷ phrase (spell.expressions 0 false x xs) ∷ [])
  picks : (gs : List Group) (e : Node) → Made (a_kind (kind.Pick gs e)) (sign m.Pick ∷ groups gs ∷ sign m.Colon ∷ expression e ∷ [])
  defines : (worded : Bool) (d : spell.Definition) (ds : List spell.Definition)
      → Made (a_kind (kind.Define (map spell.def_of (d ∷ ds)))) (optional m.Define worded (phrase (spell.definitions 0 false d ds) ∷ []))
  of_use : (c : List Fact × List Decl) → Made (a_kind (kind.Add c.0 c.1)) (sign m.Use ∷ cited false c ∷ [])
  of_hide : (c : List Fact × List Decl) → Made (a_kind (kind.Hide c.0 c.1)) (sign m.Hide ∷ cited true c ∷ [])
  qed : Made (a_kind kind.Qed) (sign m.Qed ∷ [])
  -- proofs: the steps of a proof have one level, deeper than that of the proof round it, and the last of them and no other is its QED
  missing : (levels : List ℕ) → Made (a_proof levels proof.Missing) []
  there : (levels : List ℕ) (worded : Bool) (p : Proof) → Made (a_proof levels p) (optional m.Proof worded (body levels p ∷ []))
  obvious : (levels : List ℕ) (place : Place) → Made (body levels (proof.Obvious place)) (sign_at m.Obvious place ∷ [])
  omitted : (levels : List ℕ) (place : Place) → Made (body levels (proof.Omitted place)) (sign_at m.Omitted place ∷ [])
  by : (levels : List ℕ) (place : Place) (only : Bool) (c : List Fact × List Decl)
      → Made (body levels (proof.By place only c.0 c.1)) (sign_at m.By place ∷ optional m.Only only (cited false c ∷ []))
  by_steps : (levels : List ℕ) (level : ℕ) (ss : List Step) → is_deeper level levels ≡ true → Made (body levels (proof.Steps ss)) (steps (level ∷ levels) ss ∷ [])
  last_step : (levels : List ℕ) (s : Step) → is_qed (out-Step s).kind ≡ true → Made (steps levels (s ∷ [])) (a_step levels s ∷ [])
  further_steps : (levels : List ℕ) (s : Step) (ss : List Step) → is_qed (out-Step s).kind ≡ false → Made (steps levels (s ∷ ss)) (a_step levels s ∷ steps levels ss ∷ [])
  step : (levels : List ℕ) (level : ℕ) (label : Text) (place : Place) (k : StepKind) (p : Proof) → (has_proof k ≡ false → p ≡ proof.Missing)
      → Made (a_step (level ∷ levels) (step_of place level label k p)) (step_token level label place ∷ a_kind k ∷ a_proof (level ∷ levels) p ∷ [])
  -- units
  constants_unit : (several : Bool) (d : Decl) (ds : List Decl)
      → Made (a_unit (unit.Constants (d ∷ ds))) (sign (if several then m.Constants else m.Constant) ∷ phrase (constants d ds) ∷ [])
  variables_unit : (several : Bool) (d : Decl) (ds : List Decl)
      → Made (a_unit (unit.Variables (d ∷ ds))) (sign (if several then m.Variables else m.Variable) ∷ phrase (spell.names d ds) ∷ [])
  assumption : (is_axiom : Bool) (x : Option Decl) (e : Node)
      → Made (a_unit (unit.Assume x e)) (sign (if is_axiom then m.Assumption else m.Assume) ∷ name_of x (expression e ∷ []))
  definition_unit : (d : spell.Definition) → Made (a_unit (unit.Define (spell.def_of d))) (phrase (spell.definition 0 false d) ∷ [])
  theorem : (x : Option Decl) (s : Statement) (p : Proof) → Made (a_unit (unit.Theorem x s p)) (sign m.Theorem ∷ name_of x (a_statement s ∷ a_proof [] p ∷ []))
  no_units : Made (units []) []
  rule_between : (us : List ModuleUnit) → Made (units us) (sign m.Rule ∷ units us ∷ [])
  further_units : (u : ModuleUnit) (us : List ModuleUnit) → Made (units (u ∷ us)) (at u.place ∷ a_unit u.kind ∷ units us ∷ [])

-- ---- spellings

-- The first tokens are a spelling of the symbols, in order, where the others follow them. No token that ends a list is used.
pub data Spelled : Symbols → Tokens → Tokens → Type 0 where
  none : {rest : Tokens} → Spelled [] [] rest
  token : {y : Symbol} {ys : Symbols} {used rest : Tokens} (t : Token) → is_last t.tok ≡ false → Fits y t → Spelled ys used rest → Spelled (y ∷ ys) (t ∷ used) rest
  of_place : {place : Place} {ys : Symbols} {used rest : Tokens} → (first (used ++ rest)).place ≡ place → Spelled ys used rest → Spelled (at place ∷ ys) used rest
  of_phrase : {zs : spell.Symbols} {ys : Symbols} {used more rest : Tokens} → spell.Spelled 0 false zs used (more ++ rest) → Spelled ys more rest
      → Spelled (phrase zs ∷ ys) (used ++ more) rest
  of_parts : {y : Symbol} {parts ys : Symbols} {used more rest : Tokens} → Made y parts → Spelled parts used (more ++ rest) → Spelled ys more rest
      → Spelled (y ∷ ys) (used ++ more) rest

-- the first tokens are a spelling of what the module extends and of its units, where the others follow them
abbrev pub SpellsModule : Module → Tokens → Tokens → Type 0
SpellsModule u used rest = (ds : List Decl) × (u.extends ≡ map extended ds) × Spelled (names_after m.Extends ds (units u.units ∷ [])) used rest
