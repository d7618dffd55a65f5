-- Words of the language: reserved words and identifiers.
use Rattle.std.specs.Prelude.{ℕ, Bool, not, ◌&&◌, ◌||◌, ◌==◌, nat_eq, List, [], ◌∷◌, codes}
use Rattle.std.specs.Char.{is_ascii_alphabetic, is_ascii_alphanumeric}
use Rattle.std.specs.Cmp.Lexicographic.{pointwise}
use Rattle.std.specs.List.{list_all, list_any, starts_with}

-- a letter, a digit or `_`
abbrev pub is_word_byte : ℕ → Bool
is_word_byte b = is_ascii_alphanumeric b || b == 95

-- the text is one of these
abbrev pub is_among : List (List ℕ) → List ℕ → Bool
is_among table text = list_any (λ entry. pointwise nat_eq entry text) table

-- the reserved words
unfoldable pub reserved : List (List ℕ)
reserved =
    codes "ACTION" ∷ codes "ASSUME" ∷ codes "ASSUMPTION" ∷ codes "AXIOM" ∷ codes "BOOLEAN" ∷ codes "BY" ∷ codes "CASE" ∷
    codes "CHOOSE" ∷ codes "CONSTANT" ∷ codes "CONSTANTS" ∷ codes "COROLLARY" ∷ codes "DEF" ∷ codes "DEFINE" ∷ codes "DEFS"
    ∷ codes "DOMAIN" ∷ codes "ELSE" ∷ codes "ENABLED" ∷ codes "EXCEPT" ∷ codes "EXTENDS" ∷ codes "FALSE" ∷ codes "HAVE" ∷
    codes "HIDE" ∷ codes "IF" ∷ codes "IN" ∷ codes "INSTANCE" ∷ codes "LAMBDA" ∷ codes "LEMMA" ∷ codes "LET" ∷ codes "LOCAL"
    ∷ codes "MODULE" ∷ codes "NEW" ∷ codes "OBVIOUS" ∷ codes "OMITTED" ∷ codes "ONLY" ∷ codes "OTHER" ∷ codes "PICK" ∷ codes
    "PROOF" ∷ codes "PROPOSITION" ∷ codes "PROVE" ∷ codes "QED" ∷ codes "RECURSIVE" ∷ codes "STATE" ∷ codes "STRING" ∷ codes
    "SUBSET" ∷ codes "SUFFICES" ∷ codes "TAKE" ∷ codes "TEMPORAL" ∷ codes "THEN" ∷ codes "THEOREM" ∷ codes "TRUE" ∷ codes
    "UNCHANGED" ∷ codes "UNION" ∷ codes "USE" ∷ codes "VARIABLE" ∷ codes "VARIABLES" ∷ codes "WITH" ∷ codes "WITNESS" ∷ []

abbrev pub is_reserved : List ℕ → Bool
is_reserved = is_among reserved

-- the text begins with `WF_` or `SF_`
abbrev pub begins_with_fairness : List ℕ → Bool
begins_with_fairness text = starts_with nat_eq text (codes "WF_") || starts_with nat_eq text (codes "SF_")

-- letters, digits and `_`, with a letter, no reserved word, and not beginning with a sign of fairness
abbrev pub is_identifier : List ℕ → Bool
is_identifier text = list_all is_word_byte text && list_any is_ascii_alphabetic text && not (is_reserved text) && not (begins_with_fairness text)
