-- Identifiers are ASCII, and the front of a text decides.
use Rattle.std.proofs.Common.{◌≡◌, ℕ, ◌<◌, ◌&&◌, true, List, [], ◌∷◌, take, ap, arith, rules}
use Rattle.std.specs.List.{All, list_all, list_any}
use Rattle.std.specs.Char.{is_ascii_alphabetic}
use Rattle.std.specs.Str.{IsUtf8}
use Rattle.std.proofs.lemmas.Bool.{and_parts}
use Rattle.std.proofs.lemmas.Str.{IsUtf8-from_ascii}
use Rattle.std.proofs.lemmas.Str.Ascii.{IsAscii-from_all}
use Rattle.std.proofs.lemmas.Grind.{common_steps}
use Rattle.tla_ast.specs.Word.{is_word_byte, is_identifier}
use Rattle.tla_ast.specs.Answers.{and_then}
use Rattle.tla_ast.specs.declared.token.Tokens.{Tokens}
use Rattle.tla_lexer.proofs.Tokens.{front-tokens}
use Rattle.proof_parser.specs.Modules.{module_of}
use Rattle.module_shelf.specs.Loading.{named, module_in}

word-byte : (b : ℕ) → is_word_byte b ≡ true → b < 128
word-byte b h = grind (arith, common_steps)

word-bytes : (bs : List ℕ) → list_all is_word_byte bs ≡ true → All (λ b. b < 128) bs
word-bytes [] h = search rules
word-bytes (b ∷ bs) h = let p = and_parts (is_word_byte b) (list_all is_word_byte bs) h in let one = word-byte b p.0 in let more = word-bytes bs p.1 in search rules

pub identifier_is_text : (name : List ℕ) → is_identifier name ≡ true → IsUtf8 name
identifier_is_text name h =
    let p = and_parts (list_all is_word_byte name && list_any is_ascii_alphabetic name) _ (and_parts _ _ h).0 in
    IsUtf8-from_ascii name (IsAscii-from_all name (word-bytes name (and_parts (list_all is_word_byte name) (list_any is_ascii_alphabetic name) p.0).0))

-- a text's front of more than 1048576 bytes is read as the whole text
pub front-module : (most : ℕ) (name bytes : List ℕ) → 1048576 < most → module_in name (take most bytes) ≡ module_in name bytes
unfolding module_in
front-module most name bytes h = ap (λ r. and_then r (λ (ts : Tokens). and_then (module_of ts.name ts.header ts.list) (named name))) (front-tokens most bytes h)
