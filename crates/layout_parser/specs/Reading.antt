-- Readings of expressions.
use Rattle.std.specs.Prelude.{ℕ, zero, suc, ◌-◌, Bool, true, false, not, ◌&&◌, ◌||◌, if◌then◌else◌, nat_eq, List, [], ◌∷◌, ◌++◌, length, drop, Option, Some, None, Result, Ok, Err, codes}
use Rattle.tla_ast.specs.declared.place.Place.{Place}
use Rattle.tla_ast.specs.declared.token.Token.{Token}
use Rattle.tla_ast.specs.declared.fault.Kind.TheVariants.{Precedence}
use Rattle.tla_ast.specs.declared.limit.TheConstants.{MOST_NESTINGS}
use Rattle.tla_ast.specs.declared.fault.Fault.{Fault}
use Rattle.tla_ast.specs.declared.fault.Fault.TheVariants as fault
use Rattle.tla_ast.specs.declared.tree.Node.{Node, roll-Node, out-Node}
use Rattle.tla_ast.specs.declared.tree.Form.{Form, out-Form}
use Rattle.tla_ast.specs.declared.tree.Form.TheVariants as form
use Rattle.tla_ast.specs.declared.tree.Form.TheOpen.{Form-F}
use Rattle.tla_ast.specs.declared.tree.Decl.{Decl}
use Rattle.tla_ast.specs.declared.tree.Group.{Group, roll-Group}
use Rattle.tla_ast.specs.declared.tree.Def.{Def, roll-Def}
use Rattle.tla_ast.specs.declared.tree.Path.{Path, roll-Path}
use Rattle.tla_ast.specs.declared.tree.Key.{Key}
use Rattle.tla_ast.specs.declared.tree.Key.TheVariants as key
use Rattle.operator_chain.specs.declared.chain.Operator.{Operator}
use Rattle.operator_chain.specs.declared.chain.Suffix.{Suffix}
use Rattle.operator_chain.specs.declared.chain.Ending.{Ending}
use Rattle.operator_chain.specs.declared.chain.Ending.TheVariants as ending
use Rattle.operator_chain.specs.declared.chain.Piece.{Piece}
use Rattle.operator_chain.specs.declared.chain.Piece.TheVariants as piece
use Rattle.operator_chain.specs.Tree.{Tree, node_of, hole}
use Rattle.operator_chain.specs.Chain.{tree_of, fault_of}
use Rattle.token_reader.specs.declared.mark.Mark.{Mark}
use Rattle.token_reader.specs.declared.mark.Mark.TheVariants as m
use Rattle.token_reader.specs.declared.setting.Around.{Around}
use Rattle.token_reader.specs.declared.setting.Around.TheVariants as around
use Rattle.token_reader.specs.declared.setting.Setting.{Setting}
use Rattle.token_reader.specs.declared.setting.Stop.TheVariants as stop
use Rattle.layout_parser.specs.declared.square.Fields.{Fields}
use Rattle.layout_parser.specs.declared.except.Updates.{Updates}
use Rattle.layout_parser.specs.declared.flat.Step.{Step}
use Rattle.layout_parser.specs.declared.flat.Step.TheVariants.{More, Ended, Broken}
use Rattle.std_names.specs.declared.operators.Fix.{Fix}
use Rattle.std_names.specs.declared.operators.Fix.TheVariants.{Prefix, Infix}
use Rattle.std_names.specs.Operators.{operator}
use Rattle.token_reader.specs.Marks.{Text, spelling, same_mark}
use Rattle.token_reader.specs.Lists.{gathered, put_last, separated, ask, names}
use Rattle.token_reader.specs.Input.{Tokens, Outcome, Reader, and_then, ◌>>=◌, ◌>>◌, ◌<$>◌, pure, refuse, refusal, take, eat, expect, name, declared, opening, first, next, here, mark, is_inside, sees, sees_second, within, with_at, right_of, is_tuple, literal_form, too_deep}

abbrev pub node : Form → List Node → Place → Node
node f parts place = roll-Node (record { form = f; parts = parts; place = place })

abbrev pub group : List Decl → Option Node → Group
group names domain = roll-Group (record { names = names; domain = domain })

-- ---- chains

-- a chain as far as it was read, and how it ended: before these tokens, or at a fault
abbrev pub Chain : Type 0
Chain = List Piece × Result Tokens Fault

abbrev pub behind : List Piece → Chain → Chain
behind xs c = (xs ++ c.0, c.1)

-- A chain is read as its one right tree. A wrong operator stands before what ended the chain, so that its fault comes first; where
-- the chain broke off, it counts with a plain operand where one must come.
abbrev pub by_tree : Option Tree → Option Place → Result Tokens Fault → Outcome Node
by_tree (Some t) wrong (Ok rest) = Ok (node_of t, rest)
by_tree (Some t) wrong (Err e) = Err e
by_tree None (Some p) end = Err (fault.At p Precedence)
by_tree None None end = Err (fault.At (record { line = 1; column = 1 }) Precedence)

unfoldable pub finished : Chain → Outcome Node
finished c = by_tree (tree_of c.0) (fault_of c.0) c.1

-- a reader of chains: of so many pieces at most, in a setting; the test says whether an operand must come first
abbrev pub ChainReader : Type 0
ChainReader = ℕ → Setting → Bool → Tokens → Chain

-- the operator that a token is, by its row of the table
abbrev pub operator_at : Token → Option (ℕ × ℕ × Bool) → Option Operator
operator_at t (Some row) = Some (record { sign = spelling t.tok; low = row.0; high = row.1; is_left = row.2; place = t.place })
operator_at t None = None

-- the prefix or infix operator that the next token is, in the region
unfoldable pub operator_in : Setting → Fix → Tokens → Option Operator
operator_in s fix ts = if is_inside s ts then operator_at (first ts) (operator (spelling (first ts).tok) fix) else None

-- a postfix operator, with its row of the table
abbrev pub suffix_at : Ending → ℕ → Place → Suffix
suffix_at e level place = record { ending = e; low = level; high = level; place = place }

abbrev pub prime_at : Place → Piece
prime_at place = piece.Postfix (suffix_at ending.Prime 15 place)

abbrev pub index_at : Node → Place → Piece
index_at argument place = piece.Postfix (suffix_at (ending.Index argument) 16 place)

abbrev pub field_at : Text → Place → Piece
field_at h place = piece.Postfix (suffix_at (ending.Field h) 17 place)

-- a step of a chain, and the tokens after it
abbrev pub Stepped : Type 0
Stepped = Step × Tokens

-- an operand, or the fault in it
abbrev pub by_operand : Outcome Node → Stepped
by_operand (Ok p) = (More (piece.Operand p.0) false, p.1)
by_operand (Err e) = (Broken None e, [])

-- a postfix operator with what it holds; one that is not finished counts too
abbrev pub by_suffix : {A : Type 0} → (A → Piece) → Piece → Outcome A → Stepped
by_suffix whole unfinished (Ok p) = (More (whole p.0) false, p.1)
by_suffix whole unfinished (Err e) = (Broken (Some unfinished) e, [])

-- `.h`
unfoldable pub field : Setting → Tokens → Stepped
field s ts = by_suffix (λ h. field_at h (here ts)) (field_at [] (here ts)) (name s stop.Other (next ts))

-- the pieces that a fault leaves
abbrev pub left_over : Option Piece → List Piece
left_over None = []
left_over (Some x) = x ∷ []

-- a step, and then the chain after it
abbrev pub joined : Stepped → (Bool → Tokens → Chain) → Chain
joined (More x waits, ts) more = behind (x ∷ []) (more waits ts)
joined (Ended, ts) more = ([], Ok ts)
joined (Broken x e, ts) more = (left_over x, Err e)

-- the `\in` of a bound
abbrev pub member_at : Place → Piece
member_at place = piece.Infix (record { sign = codes "\\in"; low = 5; high = 5; is_left = false; place = place })

-- `{x \in S` and `[x \in S`: the chain with these two before it
abbrev pub after_member : Text → Place → Place → Chain → Chain
after_member x place sign c = behind (piece.Operand (node (form.Name x) [] place) ∷ member_at sign ∷ []) c

-- the chain is read without a fault inside it, and this mark comes next; whether it has a right tree is left aside
abbrev pub ends_at : Setting → Mark → Chain → Bool
ends_at s k (xs, Ok rest) = sees s k rest
ends_at s k (xs, Err e) = false

-- a tuple
abbrev pub is_tuple_form : Form → Bool
is_tuple_form f = elim (out-Form f) [ Form-F.Tuple ↦ true | _ ↦ false ]

-- the setting after the first operand of a brace
abbrev pub after_first : Setting → Node → Tokens → Setting
after_first s a rest = if is_tuple_form (out-Node a).form && sees s m.Belongs rest then within around.Tuple s else s

-- the key that a postfix operator looks like
abbrev pub by_ending : Setting → Ending → Reader Key
by_ending s (ending.Index e) = pure (key.At e)
by_ending s (ending.Field h) = pure (key.Field h)
by_ending s ending.Prime = refuse s stop.Other

-- a key of a path comes next
abbrev pub begins_key : Setting → Tokens → Bool
begins_key s ts = sees s m.OpenSquare ts || sees s m.Dot ts

abbrev pub by_key : Setting → Chain → Outcome Key
by_key s (piece.Postfix q ∷ [], Ok rest) = by_ending s q.ending rest
by_key s (xs, Ok rest) = refuse s stop.Other rest
by_key s (xs, Err e) = Err e

-- where a chain ends that has as many pieces as it may have
abbrev pub full : Setting → Bool → Tokens → Result Tokens Fault
full s true ts = Err (refusal s stop.Operand ts)
full s false ts = Ok ts

-- ---- lists that grow by parts

abbrev pub no_fields : Fields
no_fields = record { names = []; parts = [] }

-- the fields with one more: its name, and a node of the name and the expression
abbrev pub with_field : Fields → Decl × Node → Fields
with_field f h = record { names = f.names ++ h.0.name ∷ []; parts = f.parts ++ node (form.Name h.0.name) [] h.0.place ∷ h.1 ∷ [] }

-- the function, before any update
abbrev pub no_updates : Node → Updates
no_updates f = record { paths = []; parts = f ∷ [] }

-- the updates with one more
abbrev pub with_update : Updates → Path × Node → Updates
with_update u x = record { paths = u.paths ++ x.0 ∷ []; parts = u.parts ++ x.1 ∷ [] }

-- the arms with one more: its guard and its value
abbrev pub with_arm : List Node → Node × Node → List Node
with_arm parts a = parts ++ a.0 ∷ a.1 ∷ []

-- ---- what holds no expression

-- a word that is an operand by itself
unfoldable pub value : Reader Node
value = λ ts. Ok (node (form.Name (spelling (first ts).tok)) [] (here ts), next ts)

-- a number or a string
unfoldable pub literal : Reader Node
literal = λ ts. Ok (node (literal_form (first ts).tok) [] (here ts), next ts)

-- a further arm comes: a `[]` that is not that of OTHER, which is read
unfoldable pub further_arm : Setting → Reader Bool
further_arm s = λ ts. if sees_second s m.Other ts then Ok (false, ts) else eat s m.Always ts

-- the same sign comes next in the column of the bullets
abbrev pub sees_bullet : Setting → Mark → Tokens → Bool
sees_bullet s k ts = nat_eq (here ts).column s.region && same_mark (mark ts) k

-- ---- the rules. `left` is how many nestings may still begin, and `inner` reads a chain in a further nesting.

module _ (left : ℕ) (inner : ChainReader) where
  -- an expression in a further nesting
  unfoldable pub part : Setting → Reader Node
  part s = λ ts. finished (inner (length ts) s true ts)

  -- ---- lists

  -- one or more expressions, with commas between, after those found
  abbrev pub expressions : Setting → List Node → Reader (List Node)
  expressions s = separated s m.Comma (part s)

  -- ---- names, parentheses, angle brackets

  -- the arguments of a name
  unfoldable pub arguments : Setting → Reader (List Node)
  arguments s = do
    opening left
    xs ← expressions (within around.Other s) []
    expect (within around.Other s) stop.Expression m.CloseParen
    pure xs

  -- a name, with the arguments that follow it at once
  unfoldable pub named : Setting → Reader Node
  named s = λ ts.
      let alone : Outcome Node = Ok (node (form.Name (spelling (first ts).tok)) [] (here ts), next ts) in
      let call = ((λ xs. node (form.Call (spelling (first ts).tok)) xs (here ts)) <$> arguments s) (next ts) in
      if sees s m.OpenParen (next ts) then call else alone

  unfoldable pub parenthesized : Setting → Reader Node
  parenthesized s = do
    opening left
    x ← part (within around.Other s)
    expect (within around.Other s) stop.Expression m.CloseParen
    pure x

  -- a tuple in the place of a subscript
  unfoldable pub tuple : Setting → Reader Node
  tuple s = do
    place ← opening left
    is_empty ← eat (within around.Other s) m.CloseAngle
    if is_empty then pure (node form.Tuple [] place) else (do
      xs ← expressions (within around.Other s) []
      expect (within around.Other s) stop.Expression m.CloseAngle
      pure (node form.Tuple xs place))

  -- a subscript: an identifier, a tuple or an expression in parentheses
  unfoldable pub subscript : Setting → Reader Node
  subscript s = λ ts.
      let named : Outcome Node = Ok (node (form.Name (spelling (first ts).tok)) [] (here ts), next ts) in
      let angle = tuple s ts in
      let paren = parenthesized s ts in
      let bad : Outcome Node = refuse s stop.Other ts in
      if sees s m.Name ts then named else (if sees s m.OpenAngle ts then angle else (if sees s m.OpenParen ts then paren else bad))

  -- `>>` after the items of a tuple, or `>>_` after an action
  unfoldable pub angle_end : Setting → Place → List Node → Reader Node
  angle_end s place xs = λ ts.
      let action = ((λ v. node form.AngleAct (xs ++ v ∷ []) place) <$> subscript s) (next ts) in
      let bad : Outcome Node = refuse (within around.Other s) stop.Expression ts in
      if sees s m.CloseAngle ts then Ok (node form.Tuple xs place, next ts)
      else (if sees s m.CloseAction ts && nat_eq (length xs) 1 then action else bad)

  -- a tuple or `<<A>>_v`
  unfoldable pub angle : Setting → Reader Node
  angle s = do
    place ← opening left
    is_empty ← eat (within around.Other s) m.CloseAngle
    if is_empty then pure (node form.Tuple [] place) else (expressions (within around.Other s) [] >>= angle_end s place)

  -- `WF_v(A)` and `SF_v(A)`; the subscript is an expression that has ended
  unfoldable pub fair : Bool → Setting → Reader Node
  fair strong s = do
    place ← take
    v ← subscript s
    (λ ts.
        let action = ((λ a. node (form.Fair strong) (v ∷ a ∷ []) place) <$> parenthesized s) ts in
        let bad : Outcome Node = refuse s stop.Expression ts in
        if sees s m.OpenParen ts then action else bad)

  -- ---- braces

  -- `{e : x \in S}`, after the `:`
  unfoldable pub image : Setting → Node → Reader Node
  image s e = do
    d ← declared (within around.Colon s) stop.Bound
    expect (within around.Colon s) stop.Other m.Belongs
    set ← part (within around.Colon s)
    expect (within around.Colon s) stop.Expression m.CloseBrace
    pure (node (form.Image d.name) (set ∷ e ∷ []) d.place)

  -- `{x \in S : P}`, after the set
  unfoldable pub filter : Setting → Text → Place → Node → Reader Node
  filter s x place set = do
    expect s stop.Expression m.Colon
    condition ← part (within around.Colon s)
    expect (within around.Colon s) stop.Expression m.CloseBrace
    pure (node (form.Filter x) (set ∷ condition ∷ []) place)

  -- the rest of `{e, ..}` after a comma
  unfoldable pub elements : Setting → Place → Node → Reader Node
  elements s place e = do
    xs ← expressions s (e ∷ [])
    expect s stop.Expression m.CloseBrace
    pure (node form.Enum xs place)

  -- what follows the first expression in a brace
  unfoldable pub brace_end : Setting → Place → Node → Reader Node
  brace_end s place e = λ ts.
      let mapped = image s e (next ts) in
      let more = elements s place e (next ts) in
      let bad : Outcome Node = refuse s stop.Expression ts in
      if sees s m.Colon ts && not (is_tuple s.around) then mapped
      else (if sees s m.Comma ts then more else (if sees s m.CloseBrace ts then Ok (node form.Enum (e ∷ []) place, next ts) else bad))

  -- A brace that begins with `x \in`: `{x \in S : P}` where the chain of S is read and a `:` follows, so that a wrong operator in
  -- it is a fault of that chain; and else another brace whose first expression begins with `x \in`.
  unfoldable pub member_brace : Setting → Place → Reader Node
  member_brace s place = λ ts.
      let c = inner (length (next (next ts))) s true (next (next ts)) in
      let found = and_then (finished c) (filter s (spelling (first ts).tok) (here ts)) in
      let other = and_then (finished (after_member (spelling (first ts).tok) (here ts) (here (next ts)) c)) (brace_end s place) in
      if ends_at s m.Colon c then found else other

  -- a brace after its first operand
  unfoldable pub tuple_brace_after : Setting → Place → Node → Reader Node
  tuple_brace_after s place a = λ rest.
      and_then (finished (behind (piece.Operand a ∷ []) (inner (length rest) (after_first s a rest) false rest))) (brace_end (after_first s a rest) place)

  -- a brace whose first token is `<<`, by its first operand: what follows a tuple and `\in` has a setting of its own. No chain of
  -- one piece that begins with `<<` is anything but an operand.
  abbrev pub tuple_brace_by : Setting → Place → Chain → Outcome Node
  tuple_brace_by s place (piece.Operand a ∷ [], Ok rest) = tuple_brace_after s place a rest
  tuple_brace_by s place (xs, Ok rest) = refuse s stop.Operand rest
  tuple_brace_by s place (xs, Err e) = Err e

  unfoldable pub tuple_brace : Setting → Place → Reader Node
  tuple_brace s place = λ ts. tuple_brace_by s place (inner 1 s true ts)

  -- after `{`
  unfoldable pub brace_from : Setting → Place → Reader Node
  brace_from s place = λ ts.
      let member = member_brace s place ts in
      let angle = tuple_brace s place ts in
      let plain = (part s >>= brace_end s place) ts in
      if sees s m.CloseBrace ts then Ok (node form.Enum [] place, next ts)
      else (if sees s m.Name ts && sees_second s m.Belongs ts then member else (if sees s m.OpenAngle ts then angle else plain))

  unfoldable pub brace : Setting → Reader Node
  brace s = opening left >>= brace_from (within around.Brace s)

  -- ---- square brackets

  -- `h |-> e` or `h : S`
  unfoldable pub field_of : Setting → Mark → Reader (Decl × Node)
  field_of s k = do
    h ← declared s stop.Other
    expect s stop.Other k
    e ← part s
    pure (h, e)

  -- one or more fields, with commas between
  abbrev pub fields : Setting → Mark → Reader Fields
  fields s k = gathered (eat s m.Comma) (field_of s k) with_field no_fields

  -- `[h |-> e, ..]`, after the `[`
  unfoldable pub record_of : Setting → Place → Reader Node
  record_of s place = do
    f ← fields s m.Maps
    expect s stop.Expression m.CloseSquare
    pure (node (form.Record f.names) f.parts place)

  -- `[h : S, ..]`, after the `[`
  unfoldable pub record_set : Setting → Place → Reader Node
  record_set s place = do
    f ← fields s m.Colon
    expect s stop.Expression m.CloseSquare
    pure (node (form.RecordSet f.names) f.parts place)

  -- `[S -> T]`, after the `->`
  unfoldable pub function_set : Setting → Place → Node → Reader Node
  function_set s place x = do
    y ← part s
    expect s stop.Expression m.CloseSquare
    pure (node form.FunctionSet (x ∷ y ∷ []) place)

  -- the argument of `f[e]`
  unfoldable pub index : Setting → Reader Node
  index s = do
    opening left
    e ← part (within around.Square s)
    expect (within around.Square s) stop.Expression m.CloseSquare
    pure e

  -- One key of a path, `[e]` or `.h`: it is read as the postfix operator that it looks like, inside the bracket of the EXCEPT.
  unfoldable pub key_of : Setting → Reader Key
  key_of s = λ ts.
      let found = by_key s (inner 1 s false ts) in
      let bad : Outcome Key = refuse s stop.Other ts in
      if begins_key s ts then found else bad

  -- one or more keys
  abbrev pub keys : Setting → Reader (List Key)
  keys s = gathered (ask (begins_key s)) (key_of s) put_last []

  -- `!path = e`; `@` has a meaning in e
  unfoldable pub update : Setting → Reader (Path × Node)
  update s = do
    expect s stop.Other m.Bang
    ks ← keys s
    expect s stop.Other m.Equal
    e ← part (with_at s)
    pure (roll-Path (record { keys = ks }), e)

  -- one or more updates, with commas between
  abbrev pub updates : Setting → Node → Reader Updates
  updates s f = gathered (eat s m.Comma) (update s) with_update (no_updates f)

  -- `[f EXCEPT !path = e, ..]`, after the EXCEPT
  unfoldable pub except : Setting → Place → Node → Reader Node
  except s place f = do
    us ← updates s f
    expect s stop.Expression m.CloseSquare
    pure (node (form.Except us.paths) us.parts place)

  -- What follows the first expression in a square bracket. A subscript stands behind the bracket, so in what is round that.
  unfoldable pub square_end : Around → Setting → Place → Node → Reader Node
  square_end outer s place e = λ ts.
      let act = ((λ v. node form.BoxAct (e ∷ v ∷ []) place) <$> subscript (within outer s)) (next ts) in
      let sets = function_set s place e (next ts) in
      let changed = except s place e (next ts) in
      let bad : Outcome Node = refuse s stop.Expression ts in
      if sees s m.CloseBox ts then act else (if sees s m.Arrow ts then sets else (if sees s m.Except ts then changed else bad))

  -- `[x \in S |-> e]`, after the set
  unfoldable pub function : Setting → Text → Place → Node → Reader Node
  function s x place set = do
    expect s stop.Expression m.Maps
    e ← part s
    expect s stop.Expression m.CloseSquare
    pure (node (form.Function x) (set ∷ e ∷ []) place)

  -- A bracket that begins with `x \in`: `[x \in S |-> e]` where the chain of S is read and a `|->` follows, and else another
  -- bracket whose first expression begins with `x \in`.
  unfoldable pub member_square : Around → Setting → Place → Reader Node
  member_square outer s place = λ ts.
      let c = inner (length (next (next ts))) s true (next (next ts)) in
      let found = and_then (finished c) (function s (spelling (first ts).tok) (here ts)) in
      let other = and_then (finished (after_member (spelling (first ts).tok) (here ts) (here (next ts)) c)) (square_end outer s place) in
      if ends_at s m.Maps c then found else other

  -- after `[`, where it begins with a name
  unfoldable pub square_name : Around → Setting → Place → Reader Node
  square_name outer s place = λ ts.
      let values = record_of s place ts in
      let sets = record_set s place ts in
      let member = member_square outer s place ts in
      let plain = (part s >>= square_end outer s place) ts in
      if sees_second s m.Maps ts then values
      else (if sees_second s m.Colon ts then sets else (if sees_second s m.Belongs ts then member else plain))

  -- after `[`
  unfoldable pub square_from : Around → Setting → Place → Reader Node
  square_from outer s place = λ ts.
      let named = square_name outer s place ts in
      let plain = (part s >>= square_end outer s place) ts in
      if sees s m.Name ts then named else plain

  unfoldable pub square : Setting → Reader Node
  square s = opening left >>= square_from s.around (within around.Square s)

  -- ---- bound names

  -- the `\in` and the set of a group of names
  unfoldable pub bound_set : Setting → List Decl → Reader Group
  bound_set s ns = do
    expect s stop.Other m.Belongs
    x ← part s
    pure (group ns (Some x))

  -- a group of names with a set
  unfoldable pub bound : Setting → Reader Group
  bound s = names s stop.Bound >>= bound_set s

  -- one or more groups with sets, with commas between, after those found
  abbrev pub further_bounds : Setting → List Group → Reader (List Group)
  further_bounds s = separated s m.Comma (bound s)

  -- one or more groups with sets, of which the first has these names
  unfoldable pub bounds : Setting → List Decl → Reader (List Group)
  bounds s ns = do
    g ← bound_set s ns
    more ← eat s m.Comma
    if more then further_bounds s (g ∷ []) else pure (g ∷ [])

  -- one or more groups with sets, or one group without a set where the `:` comes after its names
  unfoldable pub groups_of : Setting → List Decl → Reader (List Group)
  groups_of s ns = λ ts.
      let with_sets = bounds s ns ts in
      if sees s m.Colon ts then Ok (group ns None ∷ [], ts) else with_sets

  unfoldable pub quantifier : Bool → Setting → Reader Node
  quantifier all s = do
    place ← take
    ns ← names s stop.Bound
    gs ← groups_of s ns
    expect s stop.Expression m.Colon
    body ← part s
    pure (node (form.Quant all gs) (body ∷ []) place)

  -- the set of the name of a CHOOSE, and the `:`
  unfoldable pub domain : Setting → Reader (Option Node)
  domain s = λ ts.
      let set = (do x ← part s; expect s stop.Expression m.Colon; pure (Some x)) (next ts) in
      let none = (expect s stop.Other m.Colon >> pure None) ts in
      if sees s m.Belongs ts then set else none

  unfoldable pub choose : Setting → Reader Node
  choose s = do
    place ← take
    d ← declared s stop.Bound
    set ← domain s
    body ← part s
    pure (node (form.Choose (group (d ∷ []) set)) (body ∷ []) place)

  -- ---- IF, CASE, LET

  unfoldable pub conditional : Setting → Reader Node
  conditional s = do
    place ← take
    test ← part s
    expect s stop.Expression m.Then
    positive ← part s
    expect s stop.Expression m.Else
    negative ← part s
    pure (node form.If (test ∷ positive ∷ negative ∷ []) place)

  -- one arm: its guard and its value
  unfoldable pub arm : Setting → Reader (Node × Node)
  arm s = do
    guard ← part s
    expect s stop.Expression m.Arrow
    e ← part s
    pure (guard, e)

  -- one or more arms with `[]` between, up to that of OTHER
  abbrev pub arms : Setting → Reader (List Node)
  arms s = gathered (further_arm s) (arm s) with_arm []

  -- the value of OTHER, after the `[]`
  unfoldable pub other_arm : Setting → Reader Node
  other_arm s = do
    expect s stop.Other m.Other
    expect s stop.Other m.Arrow
    part s

  -- what follows the arms: that of OTHER, or nothing
  unfoldable pub case_end : Setting → Place → List Node → Reader Node
  case_end s place parts = λ ts.
      let with_other = ((λ e. node (form.Case true) (parts ++ e ∷ []) place) <$> other_arm s) (next ts) in
      if sees s m.Always ts then with_other else Ok (node (form.Case false) parts place, ts)

  -- one or more arms, of which the last may be that of OTHER
  unfoldable pub cases : Setting → Reader Node
  cases s = do
    place ← take
    parts ← arms s
    case_end s place parts

  -- the parameters of a definition in parentheses
  unfoldable pub parameters : Setting → Reader (List Decl)
  parameters s = do
    opening left
    ds ← names (within around.Other s) stop.Other
    expect (within around.Other s) stop.Parameter m.CloseParen
    pure ds

  -- what a definition has before its right side: the parameters, if any, and the `==`
  unfoldable pub head : Setting → Reader (List Decl)
  head s = λ ts.
      let with_parameters = (do ds ← parameters s; expect s stop.Other m.Defines; pure ds) ts in
      let without = (expect s stop.Defined m.Defines >> pure []) ts in
      if sees s m.OpenParen ts then with_parameters else without

  unfoldable pub definition : Setting → Reader Def
  definition s = do
    d ← declared s stop.Other
    ds ← head s
    body ← part s
    pure (roll-Def (record { name = d.name; params = ds; body = body; place = d.place }))

  -- one or more definitions
  abbrev pub definitions : Setting → Reader (List Def)
  definitions s = gathered (ask (sees s m.Name)) (definition s) put_last []

  unfoldable pub local : Setting → Reader Node
  local s = do
    place ← take
    ds ← definitions s
    expect s stop.Expression m.In
    body ← part s
    pure (node (form.Let ds) (body ∷ []) place)

  -- ---- junction lists

  -- a bullet and its item
  unfoldable pub bulleted : Setting → Reader Node
  bulleted s = take >> part s

  -- the items from a bullet on: each is an expression right of the bullets' column, and the list goes on exactly where the same
  -- sign comes next in that column
  abbrev pub items : Setting → Mark → Reader (List Node)
  items s k = gathered (ask (sees_bullet s k)) (bulleted s) put_last []

  unfoldable pub junction : Bool → Mark → Setting → Reader Node
  junction all k s = λ ts. ((λ xs. node (form.Junction all) xs (here ts)) <$> items (right_of (here ts).column s) k) ts

  -- ---- operands

  -- `@`, which is an operand in a new value of an EXCEPT alone
  unfoldable pub at : Setting → Reader Node
  at s = λ ts.
      let bad : Outcome Node = refuse s stop.Operand ts in
      if s.has_at then Ok (node form.At [] (here ts), next ts) else bad

  abbrev pub operand_by : Setting → Mark → Reader Node
  operand_by s m.Name = named s
  operand_by s m.Value = value
  operand_by s m.Number = literal
  operand_by s m.Str = literal
  operand_by s m.OpenParen = parenthesized s
  operand_by s m.OpenBrace = brace s
  operand_by s m.OpenSquare = square s
  operand_by s m.OpenAngle = angle s
  operand_by s m.And = junction true m.And s
  operand_by s m.Or = junction false m.Or s
  operand_by s m.Forall = quantifier true s
  operand_by s m.Exists = quantifier false s
  operand_by s m.Choose = choose s
  operand_by s m.If = conditional s
  operand_by s m.Case = cases s
  operand_by s m.Let = local s
  operand_by s m.Weak = fair false s
  operand_by s m.Strong = fair true s
  operand_by s m.At = at s
  operand_by s _ = refuse s stop.Operand

  -- an operand goes by its first token
  unfoldable pub operand : Setting → Reader Node
  operand s = λ ts. if is_inside s ts then operand_by s (mark ts) ts else refuse s stop.Operand ts

  -- ---- chains

  -- `[e]` after an operand
  unfoldable pub indexed : Setting → Tokens → Stepped
  indexed s ts = by_suffix (λ e. index_at e (here ts)) (index_at hole (here ts)) (index s ts)

  -- where an operand must come: a prefix operator or an operand
  abbrev pub before_by : Setting → Option Operator → Tokens → Stepped
  before_by s (Some o) ts = (More (piece.Prefix o) true, next ts)
  before_by s None ts = by_operand (operand s ts)

  unfoldable pub step_before : Setting → Tokens → Stepped
  step_before s ts = before_by s (operator_in s Prefix ts) ts

  -- a postfix operator, or the chain ends
  abbrev pub suffixed : Setting → Mark → Tokens → Stepped
  suffixed s m.Prime ts = (More (prime_at (here ts)) false, next ts)
  suffixed s m.OpenSquare ts = indexed s ts
  suffixed s m.Dot ts = field s ts
  suffixed s _ ts = (Ended, ts)

  -- after an operand: an infix or postfix operator, or the chain ends
  abbrev pub after_by : Setting → Option Operator → Tokens → Stepped
  after_by s (Some o) ts = (More (piece.Infix o) true, next ts)
  after_by s None ts = if is_inside s ts then suffixed s (mark ts) ts else (Ended, ts)

  unfoldable pub step_after : Setting → Tokens → Stepped
  step_after s ts = after_by s (operator_in s Infix ts) ts

  abbrev pub step : Setting → Bool → Tokens → Stepped
  step s true = step_before s
  step s false = step_after s

  -- A chain of so many pieces at most, as far as it can be read. An expression is given as many as there are tokens, which is more
  -- than it can have.
  unfoldable pub chain_from : ℕ → Setting → Bool → Tokens → Chain
  chain_from zero s waits ts = ([], full s waits ts)
  chain_from (suc n) s waits ts = joined (step s waits ts) (chain_from n s)

-- a chain in a further nesting, where so many nestings may begin
unfoldable pub nested : ℕ → ChainReader
nested zero n s waits ts = ([], Err (too_deep s ts))
nested (suc left) n s waits ts = chain_from left (nested left) n s waits ts

-- a rule, where so many nestings may still begin
abbrev pub rule : {A : Type 0} → ℕ → (ℕ → ChainReader → A) → A
rule left of = of left (nested left)

-- how many nestings may still begin where so many stand round
abbrev pub nestings_left : ℕ → ℕ
nestings_left depth = suc (MOST_NESTINGS - depth)

-- an expression where so many nestings may begin, itself among them
abbrev pub expression : ℕ → Setting → Reader Node
expression left = rule left part

-- what is round an expression that stands in no bracket
abbrev pub outermost : ℕ → Setting
outermost region = record { region = region; around = around.Other; has_at = false }

-- the node, and the place in the list of the token after it
abbrev pub located : List Token → Outcome Node → Result (Node × ℕ) Fault
located ts (Ok p) = Ok (p.0, length ts - length p.1)
located ts (Err e) = Err e

-- the reading of an expression that begins at a place of a list of tokens, in a region, with so many nestings round it
unfoldable pub reading : List Token → ℕ → ℕ → ℕ → Result (Node × ℕ) Fault
reading ts from region depth = located ts (expression (nestings_left depth) (outermost region) (drop from ts))
