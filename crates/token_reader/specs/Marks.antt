-- What a token is to the readers.
use Rattle.std.specs.Prelude.{ℕ, Bool, true, false, if◌then◌else◌, nat_eq, List, [], ◌∷◌, Option, codes}
use Rattle.std.specs.Cmp.Lexicographic.{pointwise}
use denote.Enum.Bare.{sameb}
use Rattle.tla_ast.specs.declared.token.Tok.{Tok}
use Rattle.tla_ast.specs.declared.token.Tok.TheVariants as tok
use Rattle.std_names.specs.declared.operators.Fix.TheVariants.{Prefix}
use Rattle.std_names.specs.Operators.{operator}
use Rattle.token_reader.specs.contracts.mark.Mark.{the_type}
use Rattle.token_reader.specs.declared.mark.Mark.{Mark}
use Rattle.token_reader.specs.declared.mark.Mark.TheVariants as m

abbrev pub Text : Type 0
Text = List ℕ

-- the reserved words
unfoldable pub words : List (Text × Mark)
words =
    (codes "ACTION", m.Refused) ∷
    (codes "ASSUME", m.Assume) ∷
    (codes "ASSUMPTION", m.Assumption) ∷
    (codes "AXIOM", m.Assumption) ∷
    (codes "BOOLEAN", m.Value) ∷
    (codes "BY", m.By) ∷
    (codes "CASE", m.Case) ∷
    (codes "CHOOSE", m.Choose) ∷
    (codes "CONSTANT", m.Constant) ∷
    (codes "CONSTANTS", m.Constants) ∷
    (codes "COROLLARY", m.Theorem) ∷
    (codes "DEF", m.Def) ∷
    (codes "DEFINE", m.Define) ∷
    (codes "DEFS", m.Def) ∷
    (codes "DOMAIN", m.Operator) ∷
    (codes "ELSE", m.Else) ∷
    (codes "ENABLED", m.Operator) ∷
    (codes "EXCEPT", m.Except) ∷
    (codes "EXTENDS", m.Extends) ∷
    (codes "FALSE", m.Value) ∷
    (codes "HAVE", m.Have) ∷
    (codes "HIDE", m.Hide) ∷
    (codes "IF", m.If) ∷
    (codes "IN", m.In) ∷
    (codes "INSTANCE", m.Refused) ∷
    (codes "LAMBDA", m.Refused) ∷
    (codes "LEMMA", m.Theorem) ∷
    (codes "LET", m.Let) ∷
    (codes "LOCAL", m.Refused) ∷
    (codes "MODULE", m.Refused) ∷
    (codes "NEW", m.New) ∷
    (codes "OBVIOUS", m.Obvious) ∷
    (codes "OMITTED", m.Omitted) ∷
    (codes "ONLY", m.Only) ∷
    (codes "OTHER", m.Other) ∷
    (codes "PICK", m.Pick) ∷
    (codes "PROOF", m.Proof) ∷
    (codes "PROPOSITION", m.Theorem) ∷
    (codes "PROVE", m.Prove) ∷
    (codes "QED", m.Qed) ∷
    (codes "RECURSIVE", m.Refused) ∷
    (codes "STATE", m.State) ∷
    (codes "STRING", m.Value) ∷
    (codes "SUBSET", m.Operator) ∷
    (codes "SUFFICES", m.Suffices) ∷
    (codes "TAKE", m.Take) ∷
    (codes "TEMPORAL", m.Refused) ∷
    (codes "THEN", m.Then) ∷
    (codes "THEOREM", m.Theorem) ∷
    (codes "TRUE", m.Value) ∷
    (codes "UNCHANGED", m.Operator) ∷
    (codes "UNION", m.Operator) ∷
    (codes "USE", m.Use) ∷
    (codes "VARIABLE", m.Variable) ∷
    (codes "VARIABLES", m.Variables) ∷
    (codes "WITH", m.With) ∷
    (codes "WITNESS", m.Witness) ∷ []

-- the signs that the profile has
unfoldable pub signs : List (Text × Mark)
signs =
    (codes "/\\", m.And) ∷
    (codes "\\/", m.Or) ∷
    (codes "~", m.Operator) ∷
    (codes "=>", m.Operator) ∷
    (codes "(", m.OpenParen) ∷
    (codes ")", m.CloseParen) ∷
    (codes ",", m.Comma) ∷
    (codes "=", m.Equal) ∷
    (codes "\\in", m.Belongs) ∷
    (codes ":", m.Colon) ∷
    (codes "[", m.OpenSquare) ∷
    (codes "]", m.CloseSquare) ∷
    (codes "{", m.OpenBrace) ∷
    (codes "}", m.CloseBrace) ∷
    (codes "<<", m.OpenAngle) ∷
    (codes ">>", m.CloseAngle) ∷
    (codes "==", m.Defines) ∷
    (codes "'", m.Prime) ∷
    (codes ".", m.Dot) ∷
    (codes "\\A", m.Forall) ∷
    (codes "\\E", m.Exists) ∷
    (codes "|->", m.Maps) ∷
    (codes "->", m.Arrow) ∷
    (codes "!", m.Bang) ∷
    (codes "@", m.At) ∷
    (codes "[]", m.Always) ∷
    (codes "]_", m.CloseBox) ∷
    (codes ">>_", m.CloseAction) ∷
    (codes "WF_", m.Weak) ∷
    (codes "SF_", m.Strong) ∷
    (codes "#", m.Operator) ∷
    (codes "<", m.Operator) ∷
    (codes ">", m.Operator) ∷
    (codes "<=", m.Operator) ∷
    (codes ">=", m.Operator) ∷
    (codes "<=>", m.Operator) ∷
    (codes "~>", m.Operator) ∷
    (codes "..", m.Operator) ∷
    (codes "+", m.Operator) ∷
    (codes "-", m.Operator) ∷
    (codes "*", m.Operator) ∷
    (codes "\\", m.Operator) ∷
    (codes "<>", m.Operator) ∷
    (codes "\\notin", m.Operator) ∷
    (codes "\\subseteq", m.Operator) ∷
    (codes "\\cup", m.Operator) ∷
    (codes "\\cap", m.Operator) ∷
    (codes "_", m.Underscore) ∷ []

-- the mark of the first row with this text
abbrev pub mark_in : List (Text × Mark) → Text → Mark → Mark
mark_in [] text otherwise = otherwise
mark_in (r ∷ rs) text otherwise = if pointwise nat_eq r.0 text then r.1 else mark_in rs text otherwise

-- A word that is not reserved is a name. The lexer gives no signs but those above and those that the profile refuses.
abbrev pub mark_of : Tok → Mark
mark_of (tok.Word w) = mark_in words w m.Name
mark_of (tok.Sign s) = mark_in signs s m.Refused
mark_of (tok.Number n) = m.Number
mark_of (tok.Str s) = m.Str
mark_of (tok.Step level label) = m.Step
mark_of tok.Rule = m.Rule
mark_of tok.End = m.End
mark_of tok.Eof = m.Eof

-- the spelling of a word or a sign
abbrev pub spelling : Tok → Text
spelling (tok.Word w) = w
spelling (tok.Sign s) = s
spelling _ = []

-- the precedence of a prefix operator, where the token is one
abbrev pub prefix_row : Tok → Option (ℕ × ℕ × Bool)
prefix_row t = operator (spelling t) Prefix

-- `==` on marks
unfoldable pub same_mark : Mark → Mark → Bool
same_mark = sameb the_type

-- the marks of what ends a list of tokens
abbrev pub is_final : Mark → Bool
is_final m.End = true
is_final m.Eof = true
is_final _ = false
