-- The signs and the words after a backslash.
use Rattle.std.specs.Prelude.{ℕ, Bool, ◌&&◌, if◌then◌else◌, nat_eq, nat_lt, List, [], ◌∷◌, length, codes}
use Rattle.std.specs.Cmp.Lexicographic.{pointwise}
use Rattle.std.specs.List.{starts_with}
use Rattle.tla_ast.specs.Word.{is_among}

abbrev pub Text : Type 0
Text = List ℕ

-- the signs of the language, and then those that every reader refuses
unfoldable pub signs : List Text
signs =
    codes "(" ∷ codes ")" ∷ codes "[" ∷ codes "]" ∷ codes "{" ∷ codes "}" ∷ codes "<<" ∷ codes ">>" ∷ codes "," ∷ codes ":"
    ∷ codes "==" ∷ codes "=" ∷ codes "#" ∷ codes "/=" ∷ codes "<" ∷ codes ">" ∷ codes "<=" ∷ codes "=<" ∷ codes ">=" ∷
    codes "=>" ∷ codes "<=>" ∷ codes "~>" ∷ codes "/\\" ∷ codes "\\/" ∷ codes "~" ∷ codes "'" ∷ codes "!" ∷ codes "." ∷
    codes ".." ∷ codes "+" ∷ codes "-" ∷ codes "*" ∷ codes "\\" ∷ codes "|->" ∷ codes "->" ∷ codes "@" ∷ codes "[]" ∷
    codes "<>" ∷ codes "]_" ∷ codes ">>_" ∷ codes "++" ∷ codes "--" ∷ codes "**" ∷ codes "/" ∷ codes "//" ∷ codes "^" ∷
    codes "^^" ∷ codes "^+" ∷ codes "^*" ∷ codes "^#" ∷ codes "%" ∷ codes "%%" ∷ codes "&" ∷ codes "&&" ∷ codes "|" ∷
    codes "||" ∷ codes "$" ∷ codes "$$" ∷ codes "?" ∷ codes "??" ∷ codes "##" ∷ codes "!!" ∷ codes "..." ∷ codes "|-" ∷
    codes "-|" ∷ codes "|=" ∷ codes "=|" ∷ codes ":>" ∷ codes "<:" ∷ codes "@@" ∷ codes ":=" ∷ codes "::=" ∷ codes "::" ∷
    codes "<-" ∷ codes "-+->" ∷ codes "(+)" ∷ codes "(-)" ∷ codes "(.)" ∷ codes "(/)" ∷ codes "(\\X)" ∷ codes "<*>" ∷
    codes "<+>" ∷ []

-- the words after a backslash, with it, and then those that every reader refuses
unfoldable pub words : List Text
words =
    codes "\\A" ∷ codes "\\E" ∷ codes "\\in" ∷ codes "\\notin" ∷ codes "\\subseteq" ∷ codes "\\cup" ∷ codes "\\union" ∷
    codes "\\cap" ∷ codes "\\intersect" ∷ codes "\\land" ∷ codes "\\lor" ∷ codes "\\lnot" ∷ codes "\\neg" ∷ codes "\\equiv"
    ∷ codes "\\leq" ∷ codes "\\geq" ∷ codes "\\X" ∷ codes "\\times" ∷ codes "\\o" ∷ codes "\\circ" ∷ codes "\\div" ∷
    codes "\\cdot" ∷ codes "\\prec" ∷ codes "\\preceq" ∷ codes "\\succ" ∷ codes "\\succeq" ∷ codes "\\ll" ∷ codes "\\gg" ∷
    codes "\\sim" ∷ codes "\\simeq" ∷ codes "\\asymp" ∷ codes "\\approx" ∷ codes "\\cong" ∷ codes "\\doteq" ∷
    codes "\\propto" ∷ codes "\\wr" ∷ codes "\\star" ∷ codes "\\bullet" ∷ codes "\\bigcirc" ∷ codes "\\oplus" ∷
    codes "\\ominus" ∷ codes "\\otimes" ∷ codes "\\odot" ∷ codes "\\oslash" ∷ codes "\\uplus" ∷ codes "\\sqcup" ∷
    codes "\\sqcap" ∷ codes "\\sqsubset" ∷ codes "\\sqsubseteq" ∷ codes "\\sqsupset" ∷ codes "\\sqsupseteq" ∷
    codes "\\subset" ∷ codes "\\supset" ∷ codes "\\supseteq" ∷ codes "\\AA" ∷ codes "\\EE" ∷ []

-- spellings of one meaning, each with the canonical one
unfoldable pub spellings : List (Text × Text)
spellings =
    (codes "\\land", codes "/\\") ∷
    (codes "\\lor", codes "\\/") ∷
    (codes "\\lnot", codes "~") ∷
    (codes "\\neg", codes "~") ∷
    (codes "\\equiv", codes "<=>") ∷
    (codes "\\union", codes "\\cup") ∷
    (codes "\\intersect", codes "\\cap") ∷
    (codes "/=", codes "#") ∷
    (codes "=<", codes "<=") ∷
    (codes "\\leq", codes "<=") ∷
    (codes "\\geq", codes ">=") ∷ []

-- the longest of these with which the text begins, and the best so far where none is longer
abbrev pub longest_from : Text → List Text → Text → Text
longest_from best [] z = best
longest_from best (s ∷ ss) z = longest_from (if nat_lt (length best) (length s) && starts_with nat_eq z s then s else best) ss z

-- the longest sign with which the text begins, empty where there is none
unfoldable pub longest : Text → Text
longest = longest_from [] signs

unfoldable pub is_backslash_word : Text → Bool
is_backslash_word = is_among words

abbrev pub canonical_in : List (Text × Text) → Text → Text
canonical_in [] spelled = spelled
canonical_in (p ∷ ps) spelled = if pointwise nat_eq p.0 spelled then p.1 else canonical_in ps spelled

-- the canonical spelling of a sign
unfoldable pub canonical : Text → Text
canonical = canonical_in spellings
