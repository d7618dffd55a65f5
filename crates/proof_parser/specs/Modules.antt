-- Readings of modules: units, statements, proofs, steps, facts and definitions.
use Rattle.std.specs.Prelude.{ℕ, zero, suc, ◌+◌, ◌-◌, Bool, true, false, ◌&&◌, ◌||◌, if◌then◌else◌, nat_eq, nat_lt, List, [], ◌∷◌, ◌++◌, length, map, Option, Some, None, Result, Ok, Err}
use Rattle.std.specs.List.{list_any}
use Rattle.proof_parser.specs.Names.{Place, Token, Tok, StepLevel, NoQed, TooDeep, Fault, Node, out-Node, Form, out-Form, Form-F, Decl, Group, Def, roll-Def, Sort, Item, Statement, Fact, Proof, out-Proof, Proof-F, Step, roll-Step, out-Step, StepKind, ModuleUnit, UnitKind, Module, Mark, Setting, Stop, Text}
use Rattle.tla_ast.specs.declared.token.Tok.TheVariants as tok
use Rattle.tla_ast.specs.declared.fault.Fault.TheVariants as fault
use Rattle.tla_ast.specs.declared.tree.Form.TheVariants as form
use Rattle.tla_ast.specs.declared.unit.Sort.TheVariants as sort
use Rattle.tla_ast.specs.declared.unit.Item.TheVariants as item
use Rattle.tla_ast.specs.declared.unit.Fact.TheVariants as fact
use Rattle.tla_ast.specs.declared.unit.Proof.TheVariants as proof
use Rattle.tla_ast.specs.declared.unit.StepKind.TheVariants as kind
use Rattle.tla_ast.specs.declared.unit.UnitKind.TheVariants as unit
use Rattle.token_reader.specs.declared.mark.Mark.TheVariants as m
use Rattle.token_reader.specs.declared.setting.Stop.TheVariants as stop
use Rattle.token_reader.specs.Input.{after, Tokens, Outcome, Reader, ◌>>=◌, ◌>>◌, ◌<$>◌, pure, refuse, refusal, take, eat, expect, name, declared, first, next, here, mark, sees, sees_second, exhausted}
use Rattle.token_reader.specs.Lists.{gathered, put_last, separated, ask, names}
use Rattle.layout_parser.specs.Reading as reading
use Rattle.layout_parser.specs.Reading.{outermost, rule, head, bounds, group, node}

-- ---- what stands in no bracket

-- units and steps use every token
abbrev pub outside : Setting
outside = outermost 0

-- an expression, where so many nestings may begin, itself among them
unfoldable pub expression : ℕ → Reader Node
expression n = reading.expression n outside

-- one or more names, with commas between
abbrev pub plain_names : Reader (List Decl)
plain_names = names outside stop.Other

-- ---- constants, names of units, where a definition begins

-- `_`
unfoldable pub blank : Reader (Unit {0})
blank = expect outside stop.Other m.Underscore

-- one or more `_` with commas between: how many there are
unfoldable pub blanks : Reader ℕ
blanks = gathered (eat outside m.Comma) blank (λ n _. n + 1) 0

-- the arguments of a constant operator, after the `(`
unfoldable pub arguments : Reader ℕ
arguments = do
  n ← blanks
  expect outside stop.Other m.CloseParen
  pure n

-- a constant: a name, alone or with `(_, _)`
unfoldable pub constant : Reader Decl
constant = do
  d ← declared outside stop.Other
  is_operator ← eat outside m.OpenParen
  if is_operator then ((λ n. record d { arity = n }) <$> arguments) else pure d

unfoldable pub constants : Reader (List Decl)
constants = separated outside m.Comma constant []

-- the name of a theorem or an ASSUME, where `==` follows it
unfoldable pub unit_name : Reader (Option Decl)
unit_name = λ ts.
    let named = (do d ← declared outside stop.Other; expect outside stop.Other m.Defines; pure (Some d)) ts in
    if sees outside m.Name ts && sees_second outside m.Defines ts then named else Ok (None, ts)

-- after the names that were read come `)` and `==`
abbrev pub closes : Outcome (List Decl) → Bool
closes (Ok p) = sees outside m.CloseParen p.1 && sees_second outside m.Defines p.1
closes (Err e) = false

-- A step whose first token is a name is a definition without DEFINE where the name has `==` behind it, or `(` names `)` `==`.
unfoldable pub begins_definition : Tokens → Bool
begins_definition ts = sees_second outside m.Defines ts || (sees_second outside m.OpenParen ts && closes (plain_names (next (next ts))))

-- ---- levels of steps

-- the level of a step token
abbrev pub level_of : Tok → ℕ
level_of (tok.Step level label) = level
level_of _ = 0

abbrev pub label_of : Tok → Text
label_of (tok.Step level label) = label
label_of _ = []

-- a level is deeper than that of the innermost of these unfinished proofs, which stands first, if there is one
abbrev pub is_deeper : ℕ → List ℕ → Bool
is_deeper level [] = true
is_deeper level (n ∷ ns) = nat_lt n level

-- a level is that of one of these unfinished proofs
abbrev pub is_open : ℕ → List ℕ → Bool
is_open level = list_any (λ n. nat_eq n level)

-- a step token that doesn't go on with the innermost unfinished proof: that proof has no QED where the token has the level of
-- another unfinished proof, and else the level is wrong
unfoldable pub misplaced : List ℕ → Tokens → Fault
misplaced levels ts = fault.At (here ts) (if is_open (level_of (first ts).tok) levels then NoQed else StepLevel)

-- after a step that does not end its proof, no step follows: a proof without QED before what may follow a proof, and else Expected
abbrev pub ends_early : Mark → Bool
ends_early m.Name = true
ends_early m.Constant = true
ends_early m.Constants = true
ends_early m.Variable = true
ends_early m.Variables = true
ends_early m.Assume = true
ends_early m.Assumption = true
ends_early m.Theorem = true
ends_early m.Rule = true
ends_early m.End = true
ends_early _ = false

abbrev pub unfinished : Tokens → Fault
unfinished ts = if ends_early (mark ts) then fault.At (here ts) NoQed else refusal outside stop.Other ts

-- ---- what a proof may hold, where so many nestings may begin, itself among them

-- the stop after an expression: a definition of a function looks like an assertion up to its `==`
abbrev pub stop_after : Form → Stop
stop_after f = elim (out-Form f) [ Form-F.Index ↦ stop.Indexed | _ ↦ stop.Expression ]

-- the last expression of a step
unfoldable pub closed : Node → Reader Node
closed e = λ ts. if sees outside m.Defines ts then Err (refusal outside (stop_after (out-Node e).form) ts) else Ok (e, ts)

module _ (n : ℕ) where
  unfoldable pub last_expression : Reader Node
  last_expression = expression n >>= closed

  -- `Name == e`, `Name(p, q) == e`
  unfoldable pub definition : Reader Def
  definition = do
    d ← declared outside stop.Other
    ps ← rule (n - 1) head outside
    e ← expression n
    pure (roll-Def (record { name = d.name; params = ps; body = e; place = d.place }))

  -- one or more definitions; an identifier begins the next
  unfoldable pub definitions : Reader (List Def)
  definitions = gathered (ask (sees outside m.Name)) definition put_last []

  -- ---- statements

  -- the end of an item that is a name alone: what follows it is a comma or PROVE
  unfoldable pub name_end : Item → Reader Item
  name_end x = λ ts. if sees outside m.Comma ts || sees outside m.Prove ts then Ok (x, ts) else Err (refusal outside stop.Parameter ts)

  -- a constant with its set, if it has one
  unfoldable pub new_constant : Reader Item
  new_constant = do
    d ← declared outside stop.Other
    has_set ← eat outside m.Belongs
    if has_set then ((λ set. item.New sort.Constant d (Some set)) <$> expression n) else name_end (item.New sort.Constant d None)

  unfoldable pub new_variable : Sort → Reader Item
  new_variable s = declared outside stop.Other >>= (λ d. name_end (item.New s d None))

  -- after NEW
  abbrev pub new_by : Mark → Reader Item
  new_by m.Name = new_constant
  new_by m.Constant = take >> new_constant
  new_by m.Variable = take >> new_variable sort.Variable
  new_by m.State = take >> new_variable sort.State
  new_by _ = refuse outside stop.Other

  unfoldable pub item_of : Reader Item
  item_of = λ ts.
      let new = new_by (mark (next ts)) (next ts) in
      let given = (item.Given <$> expression n) ts in
      if sees outside m.New ts then new else given

  -- one or more items, with commas between
  abbrev pub items : Reader (List Item)
  items = separated outside m.Comma item_of []

  -- a goal: that of a step is the step's last expression
  abbrev pub goal : Bool → Reader Node
  goal true = last_expression
  goal false = expression n

  -- `ASSUME items PROVE goal`, after the ASSUME
  unfoldable pub assuming : Bool → Reader Statement
  assuming of_step = do
    xs ← items
    expect outside stop.Expression m.Prove
    g ← goal of_step
    pure (record { items = xs; goal = g })

  -- the statement of a theorem or of a step
  unfoldable pub statement : Bool → Reader Statement
  statement of_step = λ ts.
      let with_items = assuming of_step (next ts) in
      let plain = ((λ g. record { items = []; goal = g }) <$> goal of_step) ts in
      if sees outside m.Assume ts then with_items else plain

  -- ---- facts

  abbrev pub step_name : Tokens → Fact
  step_name ts = fact.StepName (level_of (first ts).tok) (label_of (first ts).tok) (here ts)

  -- a fact that is no step token: an expression, and for HIDE a name
  abbrev pub plain_fact : Bool → Reader Node
  plain_fact true = λ ts. ((λ x. node (form.Name x) [] (here ts)) <$> name outside stop.Other) ts
  plain_fact false = expression n

  -- a step token is the name of a step
  unfoldable pub fact_of : Bool → Reader Fact
  fact_of hides = λ ts.
      let plain = ((λ e. fact.Plain (here ts) e) <$> plain_fact hides) ts in
      if sees outside m.Step ts then Ok (step_name ts, next ts) else plain

  -- one or more facts, with commas between
  abbrev pub facts : Bool → Reader (List Fact)
  facts hides = separated outside m.Comma (fact_of hides) []

  -- the names of definitions after DEF, if it comes
  unfoldable pub definitions_cited : Reader (List Decl)
  definitions_cited = do
    has_names ← eat outside m.Def
    if has_names then plain_names else pure []

  -- facts and, after DEF, names of definitions; one of the two may be missing
  unfoldable pub cited : Bool → Reader (List Fact × List Decl)
  cited hides = λ ts.
      let names_alone = (take >> ((λ ds. ([], ds)) <$> plain_names)) ts in
      let facts_first = (do
        fs ← facts hides
        ds ← definitions_cited
        pure (fs, ds)) ts in
      if sees outside m.Def ts then names_alone else facts_first

  -- ---- bound names of TAKE and PICK

  -- groups of names that all have sets, or one group without a set
  unfoldable pub groups_after : List Decl → Reader (List Group)
  groups_after ns = λ ts.
      let with_sets = rule n bounds outside ns ts in
      if sees outside m.Belongs ts then with_sets else Ok (group ns None ∷ [], ts)

  unfoldable pub taken : Reader (List Group)
  taken = names outside stop.Bound >>= groups_after

  -- ---- kinds of steps

  unfoldable pub pick : Reader StepKind
  pick = do
    gs ← taken
    expect outside stop.Other m.Colon
    e ← last_expression
    pure (kind.Pick gs e)

  -- one or more expressions, with commas between
  abbrev pub witnesses : Reader (List Node)
  witnesses = separated outside m.Comma last_expression []

  unfoldable pub uses : Bool → Reader StepKind
  uses hides = (λ c. if hides then kind.Hide c.0 c.1 else kind.Add c.0 c.1) <$> cited hides

  unfoldable pub assertion : Reader StepKind
  assertion = kind.Assert <$> statement true

  unfoldable pub name_step : Reader StepKind
  name_step = λ ts.
      let define = (kind.Define <$> definitions) ts in
      let assert = assertion ts in
      if begins_definition ts then define else assert

  -- what follows the word with which a step begins
  abbrev pub after_word : Mark → Reader StepKind
  after_word m.Case = kind.Case <$> last_expression
  after_word m.Suffices = kind.Suffices <$> statement true
  after_word m.Have = kind.Have <$> last_expression
  after_word m.Take = kind.Take <$> taken
  after_word m.Witness = kind.Witness <$> witnesses
  after_word m.Pick = pick
  after_word m.Define = kind.Define <$> definitions
  after_word m.Use = uses false
  after_word m.Hide = uses true
  after_word _ = pure kind.Qed

  -- what a step does goes by its first token
  abbrev pub kind_by : Mark → Reader StepKind
  kind_by m.Case = take >> after_word m.Case
  kind_by m.Suffices = take >> after_word m.Suffices
  kind_by m.Have = take >> after_word m.Have
  kind_by m.Take = take >> after_word m.Take
  kind_by m.Witness = take >> after_word m.Witness
  kind_by m.Pick = take >> after_word m.Pick
  kind_by m.Define = take >> after_word m.Define
  kind_by m.Use = take >> after_word m.Use
  kind_by m.Hide = take >> after_word m.Hide
  kind_by m.Qed = take >> after_word m.Qed
  kind_by m.Name = name_step
  kind_by _ = assertion

  unfoldable pub kind_of : Reader StepKind
  kind_of = λ ts. kind_by (mark ts) ts

-- the kinds of steps that have a proof
abbrev pub has_proof : StepKind → Bool
has_proof (kind.Assert s) = true
has_proof (kind.Case e) = true
has_proof (kind.Suffices s) = true
has_proof (kind.Pick gs e) = true
has_proof kind.Qed = true
has_proof _ = false

abbrev pub is_qed : StepKind → Bool
is_qed kind.Qed = true
is_qed _ = false

abbrev pub step_of : Place → ℕ → Text → StepKind → Proof → Step
step_of place level label k p = roll-Step (record { place = place; level = level; label = label; kind = k; proof = p })

-- ---- proofs

-- a reader of proofs, by the levels of the unfinished proofs round it, the innermost first
abbrev pub ProofReader : Type 0
ProofReader = List ℕ → Reader Proof

-- a proof begins with the next token: a word of proofs, or a step of a deeper level
abbrev pub begins_proof : List ℕ → Mark → Tok → Bool
begins_proof levels m.Proof t = true
begins_proof levels m.Obvious t = true
begins_proof levels m.Omitted t = true
begins_proof levels m.By t = true
begins_proof levels m.Step t = is_deeper (level_of t) levels
begins_proof levels _ t = false

-- the proof that follows, if one does
abbrev pub optional : ProofReader → ProofReader
optional inner levels = λ ts.
    let found = inner levels ts in
    if begins_proof levels (mark ts) (first ts).tok then found else Ok (proof.Missing, ts)

-- `n` is how many nestings may begin, the proof itself among them, and `inner` reads a proof in a further nesting
module _ (n : ℕ) (inner : ProofReader) where
  unfoldable pub by : Reader Proof
  by = do
    place ← take
    only ← eat outside m.Only
    c ← cited n false
    pure (proof.By place only c.0 c.1)

  -- the proof of a step of this kind
  unfoldable pub step_proof : StepKind → ProofReader
  step_proof k levels = if has_proof k then optional inner levels else pure proof.Missing

  -- a step, where all of these levels are those of unfinished proofs, the first that of its own proof
  unfoldable pub step : List ℕ → Reader Step
  step levels = λ ts.
      (do
        place ← take
        k ← kind_of n
        p ← step_proof k levels
        pure (step_of place (level_of (first ts).tok) (label_of (first ts).tok) k p)) ts

  -- after a step of a proof of this level the proof ends where that was its QED, and else goes on with a step of its level
  unfoldable pub steps_from : ℕ → ℕ → List ℕ → List Step → Reader (List Step)
  steps_from zero level levels found = λ ts. Err (exhausted ts)
  steps_from (suc n) level levels found = step levels >>= (λ s ts.
      let more = steps_from n level levels (found ++ s ∷ []) ts in
      let wrong : Outcome (List Step) = Err (misplaced levels ts) in
      let bad : Outcome (List Step) = Err (unfinished ts) in
      if is_qed (out-Step s).kind then Ok (found ++ s ∷ [], ts)
      else (if sees outside m.Step ts then (if nat_eq (level_of (first ts).tok) level then more else wrong) else bad))

  -- the steps of a proof of this level
  abbrev pub steps_of : ℕ → List ℕ → Reader (List Step)
  steps_of level levels = λ ts. steps_from (length ts) level levels [] ts

  -- a proof by steps, whose level is that of its first step
  unfoldable pub steps : ProofReader
  steps levels = λ ts.
      let found = (proof.Steps <$> steps_of (level_of (first ts).tok) (level_of (first ts).tok ∷ levels)) ts in
      if is_deeper (level_of (first ts).tok) levels then found else Err (fault.At (here ts) StepLevel)

  abbrev pub proof_by : List ℕ → Mark → Reader Proof
  proof_by levels m.Obvious = proof.Obvious <$> take
  proof_by levels m.Omitted = proof.Omitted <$> take
  proof_by levels m.By = by
  proof_by levels m.Step = steps levels
  proof_by levels _ = refuse outside stop.Other

  -- a proof, with or without the word PROOF
  unfoldable pub proof_of : ProofReader
  proof_of levels = λ ts. proof_by levels (mark (after outside m.Proof ts)) (after outside m.Proof ts)

-- a proof in a further nesting, where so many nestings may begin
unfoldable pub subproof : ℕ → ProofReader
subproof zero levels ts = Err (fault.At (here ts) TooDeep)
subproof (suc n) levels ts = proof_of (suc n) (subproof n) levels ts

-- ---- units

-- how many nestings may begin in a unit, itself among them
abbrev pub in_unit : ℕ
in_unit = 201

-- the proof of a theorem, if it has one; it is no nesting
abbrev pub theorem_proof : Reader Proof
theorem_proof = optional (subproof in_unit) []

unfoldable pub theorem : Reader UnitKind
theorem = do
  take
  x ← unit_name
  s ← statement in_unit false
  p ← theorem_proof
  pure (unit.Theorem x s p)

unfoldable pub assumption : Reader UnitKind
assumption = do
  take
  x ← unit_name
  e ← expression in_unit
  pure (unit.Assume x e)

-- a unit goes by its first token
abbrev pub unit_by : Mark → Reader UnitKind
unit_by m.Constant = take >> (unit.Constants <$> constants)
unit_by m.Constants = take >> (unit.Constants <$> constants)
unit_by m.Variable = take >> (unit.Variables <$> plain_names)
unit_by m.Variables = take >> (unit.Variables <$> plain_names)
unit_by m.Assume = assumption
unit_by m.Assumption = assumption
unit_by m.Theorem = theorem
unit_by m.Name = unit.Define <$> definition in_unit
unit_by _ = refuse outside stop.Other

abbrev pub is_by_steps : UnitKind → Bool
is_by_steps (unit.Theorem x s p) = elim (out-Proof p) [ Proof-F.Steps ss ↦ true | _ ↦ false ]
is_by_steps _ = false

-- A unit with its place. Right after a proof by steps a step has a wrong level.
unfoldable pub unit_of : Bool → Reader ModuleUnit
unit_of after_steps = λ ts.
    let found = ((λ u. record { place = here ts; kind = u }) <$> unit_by (mark ts)) ts in
    if after_steps && sees outside m.Step ts then Err (fault.At (here ts) StepLevel) else found

-- units up to the end token, with rules between
unfoldable pub units_from : ℕ → Bool → List ModuleUnit → Reader (List ModuleUnit)
units_from zero after_steps found = λ ts. Err (exhausted ts)
units_from (suc n) after_steps found = λ ts.
    let rule = units_from n false found (next ts) in
    let more = (unit_of after_steps >>= (λ u. units_from n (is_by_steps u.kind) (found ++ u ∷ []))) ts in
    if sees outside m.End ts then Ok (found, ts) else (if sees outside m.Rule ts then rule else more)

abbrev pub extended : Decl → Text × Place
extended d = (d.name, d.place)

-- the names that a module extends, with their places
unfoldable pub extends : Reader (List (Text × Place))
extends = λ ts.
    let found = (map extended <$> plain_names) (next ts) in
    if sees outside m.Extends ts then found else Ok ([], ts)

-- a module, from the name and the place of its header and the tokens after that
abbrev pub by_units : Text → Place → Outcome (List (Text × Place) × List ModuleUnit) → Result Module Fault
by_units x header (Ok p) = Ok (record { name = x; header = header; extends = p.0.0; units = p.0.1 })
by_units x header (Err e) = Err e

unfoldable pub units : Reader (List ModuleUnit)
units = λ ts. units_from (length ts) false [] ts

unfoldable pub module_of : Text → Place → List Token → Result Module Fault
module_of x header ts = by_units x header ((do es ← extends; us ← units; pure (es, us)) ts)
