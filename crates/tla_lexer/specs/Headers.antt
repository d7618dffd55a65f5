-- The header of a module.
use Rattle.std.specs.Prelude.{ℕ, ◌+◌, not, ◌||◌, if◌then◌else◌, ◌==◌, nat_eq, nat_lt, [], ◌∷◌, take, drop, Option, Some, None, codes}
use Rattle.std.specs.List.{starts_with}
use Rattle.tla_ast.specs.Word.{is_identifier}
use Rattle.tla_lexer.specs.declared.header.Header.{Header}
use Rattle.tla_lexer.specs.declared.header.Found.{Found}
use Rattle.tla_lexer.specs.Runs.{space_len, word_len, same_len}
use Rattle.tla_lexer.specs.Signs.{Text}

-- what a header has behind its first dashes: any spaces and tabs, MODULE, one or more of them, an identifier, any of them, and four
-- or more dashes
abbrev pub title : Text → Option Header
title z =
    let gap = space_len z in
    let word = drop gap z in
    let space = space_len (drop 6 word) in
    let rest = drop (6 + space) word in
    let name = take (word_len rest) rest in
    let tail = drop (word_len rest) rest in
    let last_gap = space_len tail in
    let dashes = same_len 45 (drop last_gap tail) in
    if not (starts_with nat_eq word (codes "MODULE")) then None
    else (if space == 0 || nat_lt dashes 4 || not (is_identifier name) then None
    else Some (record { name = name; length = gap + 6 + space + word_len rest + last_gap + dashes }))

abbrev pub with_dashes : ℕ → Option Header → Option Header
with_dashes n None = None
with_dashes n (Some h) = Some (record { name = h.name; length = n + h.length })

-- the header that stands at the front of a text: four or more dashes and then its title
unfoldable pub header_at : Text → Option Header
header_at z = if nat_lt (same_len 45 z) 4 then None else with_dashes (same_len 45 z) (title (drop (same_len 45 z) z))

abbrev pub farther : ℕ → Option Found → Option Found
farther n None = None
farther n (Some f) = Some (record { at = n + f.at; header = f.header })

abbrev pub here_or : Option Header → Option Found → Option Found
here_or (Some h) later = Some (record { at = 0; header = h })
here_or None later = later

-- the leftmost place at which a header stands
unfoldable pub find : Text → Option Found
find [] = None
find (b ∷ z) = here_or (header_at (b ∷ z)) (farther 1 (find z))
