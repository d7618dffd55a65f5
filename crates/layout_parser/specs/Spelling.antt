-- The grammar of expressions: which tokens, in which order, are a spelling of a node.
use Rattle.std.specs.Prelude.{◌≡◌, ◌≢◌, ℕ, Bool, true, false, ◌≤◌, nat_lt, List, [], ◌∷◌, ◌++◌, map, Option, Some, None, if◌then◌else◌}
use Rattle.tla_ast.specs.declared.place.Place.{Place}
use Rattle.tla_ast.specs.declared.token.Token.{Token}
use Rattle.tla_ast.specs.declared.tree.Node.{Node}
use Rattle.tla_ast.specs.declared.tree.Form.{Form}
use Rattle.tla_ast.specs.declared.tree.Form.TheVariants as form
use Rattle.tla_ast.specs.declared.tree.Decl.{Decl}
use Rattle.tla_ast.specs.declared.tree.Group.{Group}
use Rattle.tla_ast.specs.declared.tree.Def.{Def, roll-Def}
use Rattle.tla_ast.specs.declared.tree.Path.{Path, roll-Path}
use Rattle.tla_ast.specs.declared.tree.Key.{Key}
use Rattle.tla_ast.specs.declared.tree.Key.TheVariants as key
use Rattle.tla_ast.specs.Listing.{is_last}
use Rattle.std_names.specs.declared.operators.Fix.{Fix}
use Rattle.std_names.specs.declared.operators.Fix.TheVariants.{Prefix, Infix}
use Rattle.std_names.specs.Operators.{operator}
use Rattle.operator_chain.specs.declared.chain.Operator.{Operator}
use Rattle.operator_chain.specs.declared.chain.Ending.{Ending}
use Rattle.operator_chain.specs.declared.chain.Ending.TheVariants as ending
use Rattle.operator_chain.specs.declared.chain.Piece.{Piece}
use Rattle.operator_chain.specs.declared.chain.Piece.TheVariants as piece
use Rattle.operator_chain.specs.Tree.{Tree, node_of, flat, is_right}
use Rattle.operator_chain.specs.Listed.{AreListed}
use Rattle.token_reader.specs.declared.mark.Mark.{Mark}
use Rattle.token_reader.specs.declared.mark.Mark.TheVariants as m
use Rattle.token_reader.specs.Marks.{Text, mark_of, spelling}
use Rattle.token_reader.specs.Input.{Tokens, literal_form, first}
use Rattle.layout_parser.specs.Reading.{node, group, operator_at}

-- ---- symbols

-- What a rule of the grammar is made of: one token (a sign, anywhere, at a place or as the bullet of a column; a word at a place; the name
-- of a field; a name that is declared; a number or a string; an operator), no token where no further bullet follows, an operand, or
-- an expression with its region, where the test says whether a new value of an EXCEPT is round it.
pub data Symbol : Type 0 where
  sign : Mark → Symbol
  sign_at : Mark → Place → Symbol
  bullet : Mark → ℕ → Symbol
  word : Mark → Text → Place → Symbol
  field_name : Text → Symbol
  declared : Decl → Symbol
  literal : Mark → Form → Place → Symbol
  operator_sign : Fix → Operator → Symbol
  no_bullet : Mark → ℕ → Symbol
  operand : Node → Symbol
  expression : ℕ → Bool → Node → Symbol

abbrev pub Symbols : Type 0
Symbols = List Symbol

-- The token is this symbol: it has the mark that is asked and the place, column, text or row of the table that the symbol has.
abbrev pub Fits : Symbol → Token → Type 0
Fits (sign k) t = mark_of t.tok ≡ k
Fits (sign_at k place) t = (mark_of t.tok ≡ k) × (t.place ≡ place)
Fits (bullet k column) t = (mark_of t.tok ≡ k) × (t.place.column ≡ column)
Fits (word k text place) t = (mark_of t.tok ≡ k) × (spelling t.tok ≡ text) × (t.place ≡ place)
Fits (field_name text) t = (mark_of t.tok ≡ m.Name) × (spelling t.tok ≡ text)
Fits (declared d) t = (mark_of t.tok ≡ m.Name) × (d ≡ record { name = spelling t.tok; arity = 0; place = t.place })
Fits (literal k f place) t = (mark_of t.tok ≡ k) × (literal_form t.tok ≡ f) × (t.place ≡ place)
Fits (operator_sign fix o) t = operator_at t (operator (spelling t.tok) fix) ≡ Some o
Fits (operand n) t = ⊥
Fits (no_bullet k column) t = ⊥
Fits (expression region has_at n) t = ⊥

-- a token that an expression of the region may use: its column is over the region, and it is not what ends the list
abbrev pub MayUse : ℕ → Token → Type 0
MayUse region t = (nat_lt region t.place.column ≡ true) × (is_last t.tok ≡ false)

-- these parts, of which there is one at least, with these symbols between
abbrev pub between : Symbols → Symbols → List Symbols → Symbols
between sep x [] = x
between sep x (y ∷ ys) = x ++ (sep ++ between sep y ys)

abbrev pub comma : Symbols
comma = sign m.Comma ∷ []

-- one or more names, with commas between
abbrev pub names : Decl → List Decl → Symbols
names d ds = between comma (declared d ∷ []) (map (λ x. declared x ∷ []) ds)

-- a definition's parameters in parentheses, where it has any
abbrev pub parameters : List Decl → Symbols
parameters [] = []
parameters (d ∷ ds) = sign m.OpenParen ∷ (names d ds ++ sign m.CloseParen ∷ [])

abbrev pub quantifier_mark : Bool → Mark
quantifier_mark all = if all then m.Forall else m.Exists

abbrev pub junction_mark : Bool → Mark
junction_mark all = if all then m.And else m.Or

abbrev pub fair_mark : Bool → Mark
fair_mark strong = if strong then m.Strong else m.Weak

-- ---- lists of pairs that a node holds as two lists

-- the names of fields, and for each field a node of its name and its expression
abbrev pub names_of : List (Decl × Node) → List Text
names_of [] = []
names_of (f ∷ fs) = f.0.name ∷ names_of fs

abbrev pub parts_of : List (Decl × Node) → List Node
parts_of [] = []
parts_of (f ∷ fs) = node (form.Name f.0.name) [] f.0.place ∷ f.1 ∷ parts_of fs

-- an update: its keys, of which there is one at least, and its new value
abbrev pub Update : Type 0
Update = Key × List Key × Node

abbrev pub paths_of : List Update → List Path
paths_of [] = []
paths_of (u ∷ us) = roll-Path (record { keys = u.0 ∷ u.1 }) ∷ paths_of us

abbrev pub values_of : List Update → List Node
values_of [] = []
values_of (u ∷ us) = u.2 ∷ values_of us

-- bound names, of which there is one at least, and their set
abbrev pub Bound : Type 0
Bound = Decl × List Decl × Node

abbrev pub group_of : Bound → Group
group_of b = group (b.0 ∷ b.1) (Some b.2)

-- a guard and a value
abbrev pub Arm : Type 0
Arm = Node × Node

abbrev pub arm_parts : List Arm → List Node
arm_parts [] = []
arm_parts (a ∷ more) = a.0 ∷ a.1 ∷ arm_parts more

-- the name of a definition, its parameters and its right side
abbrev pub Definition : Type 0
Definition = Decl × List Decl × Node

abbrev pub def_of : Definition → Def
def_of d = roll-Def (record { name = d.0.name; params = d.1; body = d.2; place = d.0.place })

module _ (region : ℕ) (has_at : Bool) where
  -- an expression of the same region
  abbrev pub same : Node → Symbol
  same = expression region has_at

  -- one or more expressions, with commas between
  abbrev pub expressions : Node → List Node → Symbols
  expressions x xs = between comma (same x ∷ []) (map (λ y. same y ∷ []) xs)

  -- ---- the pieces of a chain

  abbrev pub ending_symbols : Ending → Place → Symbols
  ending_symbols ending.Prime place = sign_at m.Prime place ∷ []
  ending_symbols (ending.Index e) place = sign_at m.OpenSquare place ∷ same e ∷ sign m.CloseSquare ∷ []
  ending_symbols (ending.Field h) place = sign_at m.Dot place ∷ field_name h ∷ []

  abbrev pub piece_symbols : Piece → Symbols
  piece_symbols (piece.Operand n) = operand n ∷ []
  piece_symbols (piece.Prefix p) = operator_sign Prefix p ∷ []
  piece_symbols (piece.Infix o) = operator_sign Infix o ∷ []
  piece_symbols (piece.Postfix q) = ending_symbols q.ending q.place

  abbrev pub pieces : List Piece → Symbols
  pieces [] = []
  pieces (x ∷ xs) = piece_symbols x ++ pieces xs

  -- ---- the parts of operands

  -- `h |-> e` or `h : S`
  abbrev pub field : Mark → Decl × Node → Symbols
  field k f = declared f.0 ∷ sign k ∷ same f.1 ∷ []

  abbrev pub fields : Mark → Decl × Node → List (Decl × Node) → Symbols
  fields k f fs = between comma (field k f) (map (field k) fs)

  -- `[e]` or `.h`
  abbrev pub key_symbols : Key → Symbols
  key_symbols (key.At e) = sign m.OpenSquare ∷ same e ∷ sign m.CloseSquare ∷ []
  key_symbols (key.Field h) = sign m.Dot ∷ field_name h ∷ []

  abbrev pub keys : Key → List Key → Symbols
  keys k ks = between [] (key_symbols k) (map key_symbols ks)

  -- `!path = e`; `@` has a meaning in e
  abbrev pub update : Update → Symbols
  update u = sign m.Bang ∷ (keys u.0 u.1 ++ sign m.Equal ∷ expression region true u.2 ∷ [])

  abbrev pub updates : Update → List Update → Symbols
  updates u us = between comma (update u) (map update us)

  -- `x, .., y \in S`
  abbrev pub bound : Bound → Symbols
  bound b = names b.0 b.1 ++ sign m.Belongs ∷ same b.2 ∷ []

  abbrev pub bounds : Bound → List Bound → Symbols
  bounds b bs = between comma (bound b) (map bound bs)

  -- the set of the name of a CHOOSE
  abbrev pub set_of : Option Node → Symbols
  set_of None = []
  set_of (Some x) = sign m.Belongs ∷ same x ∷ []

  abbrev pub arm : Arm → Symbols
  arm a = same a.0 ∷ sign m.Arrow ∷ same a.1 ∷ []

  abbrev pub arms : Arm → List Arm → Symbols
  arms a more = between (sign m.Always ∷ []) (arm a) (map arm more)

  -- `name(parameters) == body`
  abbrev pub definition : Definition → Symbols
  definition d = declared d.0 ∷ (parameters d.1 ++ sign m.Defines ∷ same d.2 ∷ [])

  abbrev pub definitions : Definition → List Definition → Symbols
  definitions d ds = between [] (definition d) (map definition ds)

  -- the items of a junction list after the first, with their bullets, in one column, and no further bullet there
  abbrev pub items : Mark → ℕ → List Node → Symbols
  items k column [] = no_bullet k column ∷ []
  items k column (x ∷ xs) = bullet k column ∷ expression column has_at x ∷ items k column xs

  -- ---- operands

  -- a subscript: an identifier, a tuple or an expression in parentheses
  pub data Subscript : Node → Symbols → Type 0 where
    identifier : (x : Text) (place : Place) → Subscript (node (form.Name x) [] place) (word m.Name x place ∷ [])
    empty_tuple : (place : Place) → Subscript (node form.Tuple [] place) (sign_at m.OpenAngle place ∷ sign m.CloseAngle ∷ [])
    tuple : (x : Node) (xs : List Node) (place : Place)
        → Subscript (node form.Tuple (x ∷ xs) place) (sign_at m.OpenAngle place ∷ (expressions x xs ++ sign m.CloseAngle ∷ []))
    parentheses : (n : Node) → Subscript n (sign m.OpenParen ∷ same n ∷ sign m.CloseParen ∷ [])

  -- an operand is made of these symbols, in this order
  pub data Operand : Node → Symbols → Type 0 where
    plain : (n : Node) (ys : Symbols) → Subscript n ys → Operand n ys
    value : (x : Text) (place : Place) → Operand (node (form.Name x) [] place) (word m.Value x place ∷ [])
    number : (f : Form) (place : Place) → Operand (node f [] place) (literal m.Number f place ∷ [])
    text : (f : Form) (place : Place) → Operand (node f [] place) (literal m.Str f place ∷ [])
    call : (f : Text) (x : Node) (xs : List Node) (place : Place)
        → Operand (node (form.Call f) (x ∷ xs) place) (word m.Name f place ∷ sign m.OpenParen ∷ (expressions x xs ++ sign m.CloseParen ∷ []))
    angle_action : (a v : Node) (ys : Symbols) (place : Place) → Subscript v ys
        → Operand (node form.AngleAct (a ∷ v ∷ []) place) (sign_at m.OpenAngle place ∷ same a ∷ sign m.CloseAction ∷ ys)
    fair : (strong : Bool) (v a : Node) (ys : Symbols) (place : Place) → Subscript v ys
        → Operand (node (form.Fair strong) (v ∷ a ∷ []) place) (sign_at (fair_mark strong) place ∷ (ys ++ sign m.OpenParen ∷ same a ∷ sign m.CloseParen ∷ []))
    empty_set : (place : Place) → Operand (node form.Enum [] place) (sign_at m.OpenBrace place ∷ sign m.CloseBrace ∷ [])
    enumeration : (x : Node) (xs : List Node) (place : Place)
        → Operand (node form.Enum (x ∷ xs) place) (sign_at m.OpenBrace place ∷ (expressions x xs ++ sign m.CloseBrace ∷ []))
    filter : (x : Text) (set condition : Node) (place : Place)
        → Operand (node (form.Filter x) (set ∷ condition ∷ []) place)
        (sign m.OpenBrace ∷ word m.Name x place ∷ sign m.Belongs ∷ same set ∷ sign m.Colon ∷ same condition ∷ sign m.CloseBrace ∷ [])
    image : (d : Decl) (set e : Node)
        → Operand (node (form.Image d.name) (set ∷ e ∷ []) d.place)
        (sign m.OpenBrace ∷ same e ∷ sign m.Colon ∷ declared d ∷ sign m.Belongs ∷ same set ∷ sign m.CloseBrace ∷ [])
    function : (x : Text) (set e : Node) (place : Place)
        → Operand (node (form.Function x) (set ∷ e ∷ []) place)
        (sign m.OpenSquare ∷ word m.Name x place ∷ sign m.Belongs ∷ same set ∷ sign m.Maps ∷ same e ∷ sign m.CloseSquare ∷ [])
    function_set : (x y : Node) (place : Place)
        → Operand (node form.FunctionSet (x ∷ y ∷ []) place) (sign_at m.OpenSquare place ∷ same x ∷ sign m.Arrow ∷ same y ∷ sign m.CloseSquare ∷ [])
    records : (f : Decl × Node) (fs : List (Decl × Node)) (place : Place)
        → Operand (node (form.Record (names_of (f ∷ fs))) (parts_of (f ∷ fs)) place)
        (sign_at m.OpenSquare place ∷ (fields m.Maps f fs ++ sign m.CloseSquare ∷ []))
    record_set : (f : Decl × Node) (fs : List (Decl × Node)) (place : Place)
        → Operand (node (form.RecordSet (names_of (f ∷ fs))) (parts_of (f ∷ fs)) place)
        (sign_at m.OpenSquare place ∷ (fields m.Colon f fs ++ sign m.CloseSquare ∷ []))
    except : (f : Node) (u : Update) (us : List Update) (place : Place)
        → Operand (node (form.Except (paths_of (u ∷ us))) (f ∷ values_of (u ∷ us)) place)
        (sign_at m.OpenSquare place ∷ same f ∷ sign m.Except ∷ (updates u us ++ sign m.CloseSquare ∷ []))
    box_action : (a v : Node) (ys : Symbols) (place : Place) → Subscript v ys
        → Operand (node form.BoxAct (a ∷ v ∷ []) place) (sign_at m.OpenSquare place ∷ same a ∷ sign m.CloseBox ∷ ys)
    bounded : (all : Bool) (b : Bound) (bs : List Bound) (body : Node) (place : Place)
        → Operand (node (form.Quant all (map group_of (b ∷ bs))) (body ∷ []) place)
        (sign_at (quantifier_mark all) place ∷ (bounds b bs ++ sign m.Colon ∷ same body ∷ []))
    unbounded : (all : Bool) (d : Decl) (ds : List Decl) (body : Node) (place : Place)
        → Operand (node (form.Quant all (group (d ∷ ds) None ∷ [])) (body ∷ []) place)
        (sign_at (quantifier_mark all) place ∷ (names d ds ++ sign m.Colon ∷ same body ∷ []))
    choose : (d : Decl) (set : Option Node) (body : Node) (place : Place)
        → Operand (node (form.Choose (group (d ∷ []) set)) (body ∷ []) place)
        (sign_at m.Choose place ∷ declared d ∷ (set_of set ++ sign m.Colon ∷ same body ∷ []))
    conditional : (test positive negative : Node) (place : Place)
        → Operand (node form.If (test ∷ positive ∷ negative ∷ []) place)
        (sign_at m.If place ∷ same test ∷ sign m.Then ∷ same positive ∷ sign m.Else ∷ same negative ∷ [])
    cases : (a : Arm) (more : List Arm) (place : Place)
        → Operand (node (form.Case false) (arm_parts (a ∷ more)) place) (sign_at m.Case place ∷ arms a more)
    cases_with_other : (a : Arm) (more : List Arm) (e : Node) (place : Place)
        → Operand (node (form.Case true) (arm_parts (a ∷ more) ++ e ∷ []) place)
        (sign_at m.Case place ∷ (arms a more ++ sign m.Always ∷ sign m.Other ∷ sign m.Arrow ∷ same e ∷ []))
    local : (d : Definition) (ds : List Definition) (body : Node) (place : Place)
        → Operand (node (form.Let (map def_of (d ∷ ds))) (body ∷ []) place)
        (sign_at m.Let place ∷ (definitions d ds ++ sign m.In ∷ same body ∷ []))
    junction : (all : Bool) (x : Node) (xs : List Node) (place : Place)
        → Operand (node (form.Junction all) (x ∷ xs) place)
        (sign_at (junction_mark all) place ∷ expression place.column has_at x ∷ items (junction_mark all) place.column xs)
    at_sign : (place : Place) → has_at ≡ true → Operand (node form.At [] place) (sign_at m.At place ∷ [])

-- ---- spellings

-- the token does not go on with an expression of the region: it lies outside, or it is no infix operator and begins no postfix one
abbrev pub Stops : ℕ → Token → Type 0
Stops region t = nat_lt region t.place.column ≡ true
    → (operator (spelling t.tok) Infix ≡ None) × (mark_of t.tok ≢ m.Prime) × (mark_of t.tok ≢ m.OpenSquare) × (mark_of t.tok ≢ m.Dot)

-- The first tokens are a spelling of the symbols, in order, in a region, where the others follow them. An expression is spelled by the
-- pieces of a right tree of which it is the node, up to the first token that does not go on with it; its region lies in the region
-- round it. A junction list ends where no further bullet follows.
pub data Spelled : ℕ → Bool → Symbols → Tokens → Tokens → Type 0 where
  none : {region : ℕ} {has_at : Bool} {rest : Tokens} → Spelled region has_at [] [] rest
  token : {region : ℕ} {has_at : Bool} {y : Symbol} {ys : Symbols} {used rest : Tokens} (t : Token) → MayUse region t → Fits y t
      → Spelled region has_at ys used rest → Spelled region has_at (y ∷ ys) (t ∷ used) rest
  of_no_bullet : {region : ℕ} {has_at : Bool} {k : Mark} {column : ℕ} {ys : Symbols} {used rest : Tokens}
      → (mark_of (first (used ++ rest)).tok ≡ k → (first (used ++ rest)).place.column ≢ column)
      → Spelled region has_at ys used rest → Spelled region has_at (no_bullet k column ∷ ys) used rest
  of_operand : {region : ℕ} {has_at : Bool} {n : Node} {parts ys : Symbols} {used more rest : Tokens} → Operand region has_at n parts
      → Spelled region has_at parts used (more ++ rest) → Spelled region has_at ys more rest → Spelled region has_at (operand n ∷ ys) (used ++ more) rest
  of_tree : {region inner : ℕ} {has_at at : Bool} {n : Node} {ys : Symbols} {used more rest : Tokens} (t : Tree) → n ≡ node_of t → is_right t ≡ true
      → AreListed (flat t) → region ≤ inner → Stops inner (first (more ++ rest)) → Spelled inner at (pieces inner at (flat t)) used (more ++ rest)
      → Spelled region has_at ys more rest → Spelled region has_at (expression inner at n ∷ ys) (used ++ more) rest

-- the first tokens are a spelling of the node as an expression of the region, where the others follow them
abbrev pub Spells : ℕ → Bool → Node → Tokens → Tokens → Type 0
Spells region has_at n used rest = Spelled region has_at (expression region has_at n ∷ []) used rest
