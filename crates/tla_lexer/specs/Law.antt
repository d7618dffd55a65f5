-- Tokens in the words of the text: what each is spelled as, and what may stand between them.
use Rattle.std.specs.Prelude.{◌≡◌, ℕ, suc, ◌<◌, ◌≤◌, ◌+◌, true, false, not, ◌==◌, ◌⊎◌, List, [], ◌∷◌, ◌++◌, length, take, drop, Some, Ok, Err}
use Rattle.std.specs.Char.{is_ascii_digit}
use Rattle.std.specs.List.{list_all}
use Rattle.tla_ast.specs.declared.place.Place.{Place}
use Rattle.tla_ast.specs.declared.token.Token.{Token}
use Rattle.tla_ast.specs.declared.token.Tokens.{Tokens}
use Rattle.tla_ast.specs.declared.token.Tok.{Tok}
use Rattle.tla_ast.specs.declared.token.Tok.TheVariants as tok
use Rattle.tla_ast.specs.declared.fault.Fault.{Fault}
use Rattle.tla_ast.specs.declared.fault.Fault.TheVariants as fault
use Rattle.tla_ast.specs.declared.fault.Kind.{Kind}
use Rattle.tla_ast.specs.Listing.{is_last, IsTokenList}
use Rattle.tla_lexer.specs.declared.header.Found.{Found}
use Rattle.tla_lexer.specs.Signs.{Text, canonical}
use Rattle.tla_lexer.specs.Place.{after, first}
use Rattle.tla_lexer.specs.Runs.{is_blank}
use Rattle.tla_lexer.specs.Comments.{opens, closes}
use Rattle.tla_lexer.specs.Pieces.{value_of}
use Rattle.tla_lexer.specs.Strings.{move_of}
use Rattle.tla_lexer.specs.declared.string.Move.TheVariants.{Holds, Escapes, Closes}
use Rattle.tla_lexer.specs.Headers.{find}
use Rattle.tla_lexer.specs.Tokens.{tokens, token}

-- The rest of a comment inside which so many further comments are open: each `(*` has its `*)`, and the last `*)` closes it.
pub data Inside : ℕ → Text → Type 0 where
  last : Inside 0 (42 ∷ 41 ∷ [])
  closing : {d : ℕ} {t : Text} → Inside d t → Inside (suc d) (42 ∷ 41 ∷ t)
  opening : {d : ℕ} {t : Text} → Inside (suc d) t → Inside d (40 ∷ 42 ∷ t)
  passing : {d : ℕ} {t : Text} (b c : ℕ) → opens b c ≡ false → closes b c ≡ false → Inside d (c ∷ t) → Inside d (b ∷ c ∷ t)

-- A blank, a comment to the end of a line, or a nested comment.
pub data IsGap : Text → Type 0 where
  blank : (b : ℕ) → is_blank b ≡ true → IsGap (b ∷ [])
  line : (t : Text) → list_all (λ b. not (b == 10)) t ≡ true → IsGap (92 ∷ 42 ∷ t)
  nested : {t : Text} → Inside 0 t → IsGap (40 ∷ 42 ∷ t)

-- A value, and the bytes behind a `"` that spell it, up to and with the closing `"`.
pub data Quotes : Text → Text → Type 0 where
  close : (b : ℕ) → move_of false b ≡ Closes → Quotes [] (b ∷ [])
  plain : {v t : Text} (b c : ℕ) → move_of false b ≡ Holds c → Quotes v t → Quotes (c ∷ v) (b ∷ t)
  escape : {v t : Text} (b e c : ℕ) → move_of false b ≡ Escapes → move_of true e ≡ Holds c → Quotes v t → Quotes (c ∷ v) (b ∷ e ∷ t)

abbrev pub AreAll : ℕ → Text → Type 0
AreAll byte s = list_all (λ b. b == byte) s ≡ true

-- These bytes are a spelling of the token.
abbrev pub Spells : Tok → Text → Type 0
Spells (tok.Word w) s = s ≡ w
Spells (tok.Number n) s = (list_all is_ascii_digit s ≡ true) × (value_of s ≡ n)
Spells (tok.Str v) s = (t : Text) × (s ≡ 34 ∷ t) × Quotes v t
Spells (tok.Step level label) s = (digits dots : Text) × (s ≡ (60 ∷ digits) ++ (62 ∷ label ++ dots)) × (list_all is_ascii_digit digits ≡ true) × (value_of digits ≡ level) × AreAll 46 dots
Spells (tok.Sign c) s = (s ≡ c) ⊎ (canonical s ≡ c)
Spells tok.Rule s = (4 ≤ length s) × AreAll 45 s
Spells tok.End s = (4 ≤ length s) × AreAll 61 s
Spells tok.Eof s = s ≡ []

-- From this place on the text is laid out as these tokens: gaps, then a token whose place is behind them, and so on, up to the end
-- token or the end of the text.
pub data Laid : Place → Text → List Token → Type 0 where
  gap : {p : Place} {ts : List Token} (s z : Text) → IsGap s → Laid (after p s) z ts → Laid p (s ++ z) ts
  one : {p : Place} {ts : List Token} (t : Tok) (s z : Text) → 0 < length s → is_last t ≡ false → Spells t s → Laid (after p s) z ts → Laid p (s ++ z) (token t p ∷ ts)
  end : {p : Place} (s z : Text) → Spells tok.End s → Laid p (s ++ z) (token tok.End p ∷ [])
  eof : {p : Place} → Laid p [] (token tok.Eof p ∷ [])

-- The tokens and what lies between them are the text from the header to the end token, in order; their places rise, and the last
-- token and no other is End or Eof.
abbrev pub TokensLie : Type 0
TokensLie = (bytes : Text) (ts : Tokens) → tokens bytes ≡ Ok ts
    → (f : Found) × (find bytes ≡ Some f) × (ts.name ≡ f.header.name) × (ts.header ≡ after first (take f.at bytes))
    × Laid (after ts.header (take f.header.length (drop f.at bytes))) (drop (f.at + f.header.length) bytes) ts.list × IsTokenList ts.list

-- The fault stands where a byte of the text or its end has its place, counted as for tokens.
abbrev pub FaultIn : Place → Text → Fault → Type 0
FaultIn p text e = (q : Place) × (k : Kind) × (front : Text) × (rest : Text) × (e ≡ fault.At q k) × (text ≡ front ++ rest) × (q ≡ after p front)

-- A text that has no tokens has a fault in it.
abbrev pub FaultsLie : Type 0
FaultsLie = (bytes : Text) (e : Fault) → tokens bytes ≡ Err e → FaultIn first bytes e
