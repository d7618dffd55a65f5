-- Strings.
use Rattle.std.specs.Prelude.{ℕ, ◌+◌, Bool, true, false, ◌&&◌, ◌||◌, if◌then◌else◌, ◌==◌, nat_le, List, [], ◌∷◌, ◌++◌}
use Rattle.tla_lexer.specs.declared.string.Move.{Move}
use Rattle.tla_lexer.specs.declared.string.Move.TheVariants.{Holds, Escapes, Closes, Breaks, Wrong}

-- what a byte behind a backslash does: `"`, `\`, `t`, `n`, `f` and `r` have a meaning there
abbrev pub escaped_move : ℕ → Move
escaped_move b =
    if b == 34 || b == 92 then Holds b
    else (if b == 116 then Holds 9
    else (if b == 110 then Holds 10
    else (if b == 102 then Holds 12
    else (if b == 114 then Holds 13
    else (if b == 10 then Breaks else Wrong)))))

-- what a byte that is not behind a backslash does: 32 to 126 stand for themselves, but for `"` and `\`
abbrev pub plain_move : ℕ → Move
plain_move b =
    if b == 34 then Closes
    else (if b == 92 then Escapes
    else (if b == 10 then Breaks
    else (if nat_le 32 b && nat_le b 126 then Holds b else Wrong)))

abbrev pub move_of : Bool → ℕ → Move
move_of escaped b = if escaped then escaped_move b else plain_move b

-- how what follows a `"` ends: closed, with the value and the number of bytes; not closed on its line; a byte that must not stand
-- there, with its index
pub data Quoted : Type 0 where
  closed : List ℕ → ℕ → Quoted
  unclosed : Quoted
  wrong : ℕ → Quoted

-- the same with this value and this many bytes before it
abbrev pub behind_value : List ℕ → ℕ → Quoted → Quoted
behind_value v n (closed w m) = closed (v ++ w) (n + m)
behind_value v n unclosed = unclosed
behind_value v n (wrong m) = wrong (n + m)

-- how a string ends behind a byte with this move, by how the rest ends with a backslash just read and without one
abbrev pub by_move : Move → (Bool → Quoted) → Quoted
by_move (Holds c) more = behind_value (c ∷ []) 1 (more false)
by_move Escapes more = behind_value [] 1 (more true)
by_move Closes more = closed [] 1
by_move Breaks more = unclosed
by_move Wrong more = wrong 0

-- what follows the `"` of a string, where the flag says whether a backslash has just been read
abbrev pub string_from : Bool → List ℕ → Quoted
string_from escaped [] = unclosed
string_from escaped (b ∷ z) = by_move (move_of escaped b) (λ e. string_from e z)
