-- What is proved of the places of names that are read. The statement is the contract of a function of src/lib.rt.
use Rattle.std.specs.Prelude.{◌≡◌, List, ℕ, Ok}
use Rattle.tla_ast.specs.declared.token.Tokens.{Tokens}
use Rattle.tla_ast.specs.declared.unit.Module.{Module}
use Rattle.tla_lexer.specs.Tokens.{tokens}
use Rattle.proof_parser.specs.Modules as read
use Rattle.plain_syntax.specs.Syntax.{module_of}
use Rattle.name_places.specs.Places.{AllApart, module_places}

-- A module that a text is read as has no two names at one place.
abbrev pub ReadPlacesDiffer : Type 0
ReadPlacesDiffer =
    (text : List ℕ) (ts : Tokens) (m : Module) → tokens text ≡ Ok ts → read.module_of ts.name ts.header ts.list ≡ Ok m
    → AllApart (module_places (module_of m))
