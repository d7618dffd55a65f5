-- The tokens of a module: what stands at the front of the bytes is cut off, piece by piece.
use Rattle.std.specs.Prelude.{ℕ, zero, suc, ◌+◌, ◌-◌, if◌then◌else◌, nat_lt, List, [], ◌∷◌, ◌++◌, length, take, drop, Option, Some, None, Result, Ok, Err}
use Rattle.tla_ast.specs.declared.place.Place.{Place}
use Rattle.tla_ast.specs.declared.token.Token.{Token}
use Rattle.tla_ast.specs.declared.token.Tokens.{Tokens}
use Rattle.tla_ast.specs.declared.token.Tok.{Tok}
use Rattle.tla_ast.specs.declared.token.Tok.TheVariants as tok
use Rattle.tla_ast.specs.declared.fault.Kind.TheVariants.{TooLong, NoModule}
use Rattle.tla_ast.specs.declared.fault.Fault.{Fault}
use Rattle.tla_ast.specs.declared.fault.Fault.TheVariants as fault
use Rattle.tla_ast.specs.declared.limit.TheConstants.{MOST_BYTES}
use Rattle.tla_lexer.specs.declared.piece.Piece.{Piece}
use Rattle.tla_lexer.specs.declared.piece.Piece.TheVariants as piece
use Rattle.tla_lexer.specs.declared.header.Found.{Found}
use Rattle.tla_lexer.specs.Signs.{Text}
use Rattle.tla_lexer.specs.Place.{moved, after, first}
use Rattle.tla_lexer.specs.Pieces.{piece_at}
use Rattle.tla_lexer.specs.Headers.{find}

abbrev pub Listed : Type 0
Listed = Result (List Token) Fault

abbrev pub with_front : Token → Listed → Listed
with_front t (Ok ts) = Ok (t ∷ ts)
with_front t (Err e) = Err e

abbrev pub token : Tok → Place → Token
token t p = record { tok = t; place = p }

-- The tokens of the text from this place on, up to and with the end token, or Eof at the place after the last byte. The number
-- counts the bytes that are left of a piece.
abbrev pub tokens_from : ℕ → Place → Text → Listed
tokens_from left p [] = Ok (token tok.Eof p ∷ [])
tokens_from (suc left) p (b ∷ z) = tokens_from left (moved p b) z
tokens_from zero p (b ∷ z) = by_piece (piece_at (b ∷ z)) (λ n. tokens_from n (moved p b) z)
  where
    by_piece : Piece → (ℕ → Listed) → Listed
    by_piece (piece.Gap n) more = more (n - 1)
    by_piece (piece.Token t n) more = with_front (token t p) (more (n - 1))
    by_piece piece.End more = Ok (token tok.End p ∷ [])
    by_piece (piece.Fault k n) more = Err (fault.At (after p (take n (b ∷ z))) k)

abbrev pub headed : Text → Place → Listed → Result Tokens Fault
headed name header (Ok list) = Ok (record { name = name; header = header; list = list })
headed name header (Err e) = Err e

-- the tokens behind a header that is found
unfoldable pub tokens_of : Text → Found → Result Tokens Fault
tokens_of bytes f =
    let header = after first (take f.at bytes) in
    headed f.header.name header (tokens_from 0 (after header (take f.header.length (drop f.at bytes))) (drop (f.at + f.header.length) bytes))

abbrev pub tokens_by : Text → Option Found → Result Tokens Fault
tokens_by bytes None = Err (fault.At first NoModule)
tokens_by bytes (Some f) = tokens_of bytes f

-- the tokens of a module, or its first fault
unfoldable pub tokens : Text → Result Tokens Fault
tokens bytes = if nat_lt MOST_BYTES (length bytes) then Err (fault.At first TooLong) else tokens_by bytes (find bytes)

-- these tokens before those that are found
abbrev pub behind : List Token → Listed → Listed
behind ts (Ok more) = Ok (ts ++ more)
behind ts (Err e) = Err e
