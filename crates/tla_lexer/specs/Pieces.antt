-- What stands at the front of a text.
use Rattle.std.specs.Prelude.{ℕ, ◌+◌, ◌-◌, ◌*◌, ◌^◌, ◌≤◌, Bool, ◌&&◌, false, if◌then◌else◌, ◌==◌, nat_eq, nat_lt, nat_le, length, take, drop, fold, slice_index, Option, Some, None, codes}
use Rattle.std.specs.Char.{is_ascii_digit, is_ascii_alphabetic}
use Rattle.std.specs.Cmp.Lexicographic.{pointwise}
use Rattle.std.specs.List.{list_all, list_any}
use Rattle.tla_ast.specs.declared.token.Tok.TheVariants as tok
use Rattle.tla_ast.specs.declared.fault.Kind.TheVariants.{BadByte, OpenComment, OpenString, NumberTooLarge}
use Rattle.tla_ast.specs.Word.{is_word_byte, begins_with_fairness}
use Rattle.tla_lexer.specs.declared.piece.Piece.{Piece}
use Rattle.tla_lexer.specs.declared.piece.Piece.TheVariants.{Gap, Token, End, Fault}
use Rattle.tla_lexer.specs.Runs.{is_blank, word_len, digit_len, same_len, line_len}
use Rattle.tla_lexer.specs.Comments.{opens, rest_len}
use Rattle.tla_lexer.specs.Strings.{Quoted, closed, unclosed, wrong, string_from}
use Rattle.tla_lexer.specs.Signs.{Text, longest, is_backslash_word, canonical}

-- the number that digits mean
abbrev pub value_of : Text → ℕ
value_of = fold (λ n b. 10 * n + (b - 48)) 0

abbrev pub is_small : Text → Bool
is_small run = nat_lt (value_of run) (2 ^ 128)

-- a run of digits
abbrev pub number : Text → Piece
number run = if is_small run then Token (tok.Number (value_of run)) (length run) else Fault NumberTooLarge 0

-- a whole run of letters, digits and `_`: a number, a word, the sign `_`, or nothing
abbrev pub word : Text → Piece
word run =
    if list_all is_ascii_digit run then number run
    else (if list_any is_ascii_alphabetic run then Token (tok.Word run) (length run)
    else (if pointwise nat_eq run (codes "_") then Token (tok.Sign run) (length run) else Fault BadByte 0))

-- a sign of this spelling: the token has its canonical spelling
abbrev pub sign : Text → Piece
sign s = if length s == 0 then Fault BadByte 0 else Token (tok.Sign (canonical s)) (length s)

-- `WF_` or `SF_`
abbrev pub fairness : Text → Piece
fairness s = Token (tok.Sign s) 3

-- a comment whose rest has this length
abbrev pub comment : Option ℕ → Piece
comment None = Fault OpenComment 0
comment (Some n) = Gap (2 + n)

-- a string, by what follows its `"`
abbrev pub quoted : Quoted → Piece
quoted (closed v n) = Token (tok.Str v) (1 + n)
quoted unclosed = Fault OpenString 0
quoted (wrong n) = Fault BadByte (1 + n)

-- `<`, digits, `>`
abbrev pub is_step : Text → Bool
is_step z = let digits = digit_len (drop 1 z) in slice_index z 0 == 60 && nat_lt 0 digits && slice_index z (1 + digits) == 62

-- what stands behind the `>` of a step token
abbrev pub step_tail : Text → Text
step_tail z = drop (digit_len (drop 1 z) + 2) z

-- a step token: its level, the run behind it as its label, and any dots
abbrev pub step : Text → Piece
step z =
    let digits = digit_len (drop 1 z) in
    let level = take digits (drop 1 z) in
    let tail = step_tail z in
    let label = word_len tail in
    let dots = same_len 46 (drop label tail) in
    if is_small level then Token (tok.Step (value_of level) (take label tail)) (digits + 2 + label + dots) else Fault NumberTooLarge 0

-- `\*`
abbrev pub opens_line : ℕ → ℕ → Bool
opens_line b c = b == 92 && c == 42

-- the first byte and the whole run of letters, digits and `_` behind it
abbrev pub backslash_word : Text → Text
backslash_word z = take (1 + word_len (drop 1 z)) z

-- a step token, a rule, the end token, a word after a backslash, or the longest sign
abbrev pub mark : Text → Piece
mark z =
    if is_step z then step z
    else (if nat_le 4 (same_len 45 z) then Token tok.Rule (same_len 45 z)
    else (if nat_le 4 (same_len 61 z) then End
    else (if is_backslash_word (backslash_word z) then sign (backslash_word z) else sign (longest z))))

-- what stands at the front of a text
unfoldable pub piece_at : Text → Piece
piece_at z =
    let b = slice_index z 0 in
    let c = slice_index z 1 in
    if is_blank b then Gap 1
    else (if opens_line b c then Gap (line_len z)
    else (if opens b c then comment (rest_len 0 (drop 2 z))
    else (if begins_with_fairness z then fairness (take 3 z)
    else (if is_word_byte b then word (take (word_len z) z)
    else (if b == 34 then quoted (string_from false (drop 1 z)) else mark z)))))

-- the piece is some of so many bytes
abbrev pub Within : ℕ → Piece → Type 0
Within len (Gap n) = (1 ≤ n) × (n ≤ len)
Within len (Token t n) = (1 ≤ n) × (n ≤ len)
Within len End = Unit {0}
Within len (Fault k n) = n ≤ len
