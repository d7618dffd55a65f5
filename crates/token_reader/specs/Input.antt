-- The tokens that are left, and the steps that every rule is made of.
use Rattle.std.specs.Prelude.{ℕ, zero, suc, Bool, true, false, ◌&&◌, ◌||◌, if◌then◌else◌, nat_lt, List, [], ◌∷◌, Result, Ok, Err}
use Rattle.tla_ast.specs.declared.place.Place.{Place}
use Rattle.tla_ast.specs.declared.token.Token.{Token}
use Rattle.tla_ast.specs.declared.token.Tok.{Tok}
use Rattle.tla_ast.specs.declared.token.Tok.TheVariants as tok
use Rattle.tla_ast.specs.declared.fault.Kind.{Kind}
use Rattle.tla_ast.specs.declared.fault.Kind.TheVariants.{Expected, TooDeep, Unsupported}
use Rattle.tla_ast.specs.declared.fault.Fault.{Fault}
use Rattle.tla_ast.specs.declared.fault.Fault.TheVariants as fault
use Rattle.std.specs.Option.{is_some}
use Rattle.tla_ast.specs.declared.tree.Decl.{Decl}
use Rattle.tla_ast.specs.declared.tree.Form.{Form}
use Rattle.tla_ast.specs.declared.tree.Form.TheVariants as form
use Rattle.token_reader.specs.declared.mark.Mark.{Mark}
use Rattle.token_reader.specs.declared.mark.Mark.TheVariants as m
use Rattle.token_reader.specs.declared.setting.Around.{Around}
use Rattle.token_reader.specs.declared.setting.Around.TheVariants as around
use Rattle.token_reader.specs.declared.setting.Setting.{Setting}
use Rattle.token_reader.specs.declared.setting.Stop.{Stop}
use Rattle.token_reader.specs.declared.setting.Stop.TheVariants as stop
use Rattle.token_reader.specs.Marks.{Text, mark_of, spelling, prefix_row, same_mark}

-- ---- the next token

abbrev pub Tokens : Type 0
Tokens = List Token

-- the first token, and the end where there is none
abbrev pub first : Tokens → Token
first [] = record { tok = tok.Eof; place = record { line = 1; column = 1 } }
first (t ∷ ts) = t

abbrev pub next : Tokens → Tokens
next [] = []
next (t ∷ ts) = ts

abbrev pub here : Tokens → Place
here ts = (first ts).place

unfoldable pub mark : Tokens → Mark
mark ts = mark_of (first ts).tok

-- a token is used only where its column is over the region
abbrev pub is_inside : Setting → Tokens → Bool
is_inside s ts = nat_lt s.region (here ts).column

-- the next token has this mark and lies in the region
unfoldable pub sees : Setting → Mark → Tokens → Bool
sees s k ts = is_inside s ts && same_mark (mark ts) k

-- so does the one after it
unfoldable pub sees_second : Setting → Mark → Tokens → Bool
sees_second s k ts = sees s k (next ts)

-- the same, inside a bracket of this kind
abbrev pub within : Around → Setting → Setting
within a s = record s { around = a }

-- the same, where `@` has a meaning
abbrev pub with_at : Setting → Setting
with_at s = record s { has_at = true }

-- the same, right of this column
abbrev pub right_of : ℕ → Setting → Setting
right_of column s = record s { region = column }

-- the number or the string that a token is
abbrev pub literal_form : Tok → Form
literal_form (tok.Number n) = form.Number n
literal_form (tok.Str t) = form.Str t
literal_form _ = form.At

-- ---- where there is no reading

abbrev pub is_operand : Stop → Bool
is_operand stop.Operand = true
is_operand _ = false

abbrev pub is_expression : Stop → Bool
is_expression stop.Expression = true
is_expression _ = false

abbrev pub is_bound : Stop → Bool
is_bound stop.Bound = true
is_bound _ = false

abbrev pub is_parameter : Stop → Bool
is_parameter stop.Parameter = true
is_parameter _ = false

abbrev pub is_defined : Stop → Bool
is_defined stop.Defined = true
is_defined _ = false

abbrev pub is_indexed : Stop → Bool
is_indexed stop.Indexed = true
is_indexed _ = false

abbrev pub is_square : Around → Bool
is_square around.Square = true
is_square _ = false

abbrev pub is_colon : Around → Bool
is_colon around.Colon = true
is_colon _ = false

abbrev pub is_tuple : Around → Bool
is_tuple around.Tuple = true
is_tuple _ = false

-- the fault at a token is Unsupported in the place of Expected, by its mark, what is round it and what stands before it
abbrev pub is_refused : Around → Stop → Mark → Bool
is_refused a before m.Refused = true
is_refused a before m.Underscore = true
is_refused a before m.Defines = is_indexed before
is_refused a before m.Assume = is_operand before
is_refused a before m.OpenParen = is_parameter before
is_refused a before m.OpenSquare = is_defined before
is_refused a before m.OpenAngle = is_bound before
is_refused a before m.Maps = is_square a && is_expression before
is_refused a before m.Colon = is_tuple a
is_refused a before m.Comma = is_square a || is_colon a
is_refused a before _ = false

abbrev pub kind_at : Setting → Stop → Tokens → Kind
kind_at s before ts = if is_refused s.around before (mark ts) then Unsupported (spelling (first ts).tok) else Expected

-- the fault at the next token, where no rule goes on with it
unfoldable pub refusal : Setting → Stop → Tokens → Fault
refusal s before ts = fault.At (here ts) (kind_at s before ts)

-- ---- readers

abbrev pub Outcome : Type 0 → Type 0
Outcome A = Result (A × Tokens) Fault

abbrev pub Reader : Type 0 → Type 0
Reader A = Tokens → Outcome A

abbrev pub and_then : {A B : Type 0} → Outcome A → (A → Reader B) → Outcome B
and_then (Ok p) f = f p.0 p.1
and_then (Err e) f = Err e

infixl 10 ◌>>=◌
abbrev pub ◌>>=◌ : {A B : Type 0} → Reader A → (A → Reader B) → Reader B
p >>= f = λ ts. and_then (p ts) f

infixl 10 ◌>>◌
abbrev pub ◌>>◌ : {A B : Type 0} → Reader A → Reader B → Reader B
p >> q = p >>= (λ _. q)

abbrev pub pure : {A : Type 0} → A → Reader A
pure a = λ ts. Ok (a, ts)

infixr 11 ◌<$>◌
abbrev pub ◌<$>◌ : {A B : Type 0} → (A → B) → Reader A → Reader B
f <$> p = p >>= (λ x. pure (f x))

abbrev pub refuse : {A : Type 0} → Setting → Stop → Reader A
refuse s before = λ ts. Err (refusal s before ts)

-- the place of the next token, which is read
abbrev pub take : Reader Place
take = λ ts. Ok (here ts, next ts)

unfoldable pub after : Setting → Mark → Tokens → Tokens
after s k ts = if sees s k ts then next ts else ts

-- reads a token with this mark, if it comes next
abbrev pub eat : Setting → Mark → Reader Bool
eat s k = λ ts. Ok (sees s k ts, after s k ts)

-- reads a token with this mark
unfoldable pub expect : Setting → Stop → Mark → Reader (Unit {0})
expect s before k = λ ts. if sees s k ts then Ok (tt, next ts) else Err (refusal s before ts)

-- reads an identifier
unfoldable pub name : Setting → Stop → Reader Text
name s before = λ ts. if sees s m.Name ts then Ok (spelling (first ts).tok, next ts) else Err (refusal s before ts)

-- reads an identifier that is bound or is a parameter
unfoldable pub declared : Setting → Stop → Reader Decl
declared s before = λ ts.
    if sees s m.Name ts then Ok (record { name = spelling (first ts).tok; arity = 0; place = here ts }, next ts) else Err (refusal s before ts)

-- the fault where a list has taken as many turns as there are tokens; no list of tokens comes to it, since each turn takes one
abbrev pub exhausted : Tokens → Fault
exhausted ts = fault.At (here ts) Expected

-- the opening sign of a bracket, where so many nestings may still begin
unfoldable pub opening : ℕ → Reader Place
opening zero = λ ts. Err (fault.At (here ts) TooDeep)
opening (suc n) = take

-- a token with which an operand begins
abbrev pub begins_operand : Bool → Mark → Bool
begins_operand has_at m.Name = true
begins_operand has_at m.Value = true
begins_operand has_at m.Number = true
begins_operand has_at m.Str = true
begins_operand has_at m.OpenParen = true
begins_operand has_at m.OpenBrace = true
begins_operand has_at m.OpenSquare = true
begins_operand has_at m.OpenAngle = true
begins_operand has_at m.And = true
begins_operand has_at m.Or = true
begins_operand has_at m.Forall = true
begins_operand has_at m.Exists = true
begins_operand has_at m.Choose = true
begins_operand has_at m.If = true
begins_operand has_at m.Case = true
begins_operand has_at m.Let = true
begins_operand has_at m.Weak = true
begins_operand has_at m.Strong = true
begins_operand has_at m.At = has_at
begins_operand has_at _ = false

-- an expression may begin with the next token
unfoldable pub begins : Setting → Tokens → Bool
begins s ts = is_inside s ts && (is_some (prefix_row (first ts).tok) || begins_operand s.has_at (mark ts))

-- Where no further nesting may begin: an Expected at this token comes before TooDeep, and an Unsupported after it.
abbrev pub too_deep_kind : Setting → Tokens → Kind
too_deep_kind s ts = if begins s ts || is_refused s.around stop.Operand (mark ts) then TooDeep else Expected

unfoldable pub too_deep : Setting → Tokens → Fault
too_deep s ts = fault.At (here ts) (too_deep_kind s ts)
