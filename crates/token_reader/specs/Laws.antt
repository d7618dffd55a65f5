-- What ties the marks to the tables below them.
use Rattle.std.specs.Prelude.{◌≡◌, map}
use Rattle.tla_ast.specs.Word.{reserved}
use Rattle.token_reader.specs.Marks.{words}

-- the words that have a mark of their own are the reserved words
abbrev pub WordsAreReserved : Type 0
WordsAreReserved = map (λ r. r.0) words ≡ reserved
