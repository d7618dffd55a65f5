-- How far bytes of one sort go at the front of a text.
use Rattle.std.specs.Prelude.{ℕ, Bool, not, ◌||◌, ◌==◌, List}
use Rattle.std.specs.Char.{is_ascii_digit}
use Rattle.std.specs.List.{prefix_len}
use Rattle.tla_ast.specs.Word.{is_word_byte}

-- space, tab, line feed or carriage return
abbrev pub is_blank : ℕ → Bool
is_blank b = b == 32 || (b == 9 || (b == 10 || b == 13))

-- space or tab
abbrev pub is_space : ℕ → Bool
is_space b = b == 32 || b == 9

-- the length of the whole run of letters, digits and `_`
abbrev pub word_len : List ℕ → ℕ
word_len = prefix_len is_word_byte

abbrev pub digit_len : List ℕ → ℕ
digit_len = prefix_len is_ascii_digit

abbrev pub space_len : List ℕ → ℕ
space_len = prefix_len is_space

-- how often this byte stands at the front
abbrev pub same_len : ℕ → List ℕ → ℕ
same_len byte = prefix_len (λ b. b == byte)

-- the length of the line without its line feed
abbrev pub line_len : List ℕ → ℕ
line_len = prefix_len (λ b. not (b == 10))
