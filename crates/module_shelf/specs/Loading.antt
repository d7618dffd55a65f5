-- Which modules are loaded, or why the loading stops.
use Rattle.std.specs.Prelude.{ℕ, zero, suc, ◌+◌, Bool, true, false, if◌then◌else◌, nat_le, List, [], ◌∷◌, ◌++◌, length, Option, Some, None, Result, Ok, Err}
use Rattle.std.specs.List.{list_any}
use Rattle.std.specs.Str.{bytes_eq}
use Rattle.tla_io.specs.Told.{Bytes, Folder}
use Rattle.std_names.specs.Libraries.{is_library}
use Rattle.tla_lexer.specs.Tokens.{tokens}
use Rattle.tla_ast.specs.Answers.{and_then}
use Rattle.tla_ast.specs.Word.{is_among, is_identifier}
use Rattle.tla_ast.specs.declared.place.Place.{Place}
use Rattle.tla_ast.specs.declared.token.Tokens.{Tokens}
use Rattle.tla_ast.specs.declared.fault.Fault.{Fault}
use Rattle.tla_ast.specs.declared.fault.Fault.TheVariants as fault
use Rattle.tla_ast.specs.declared.fault.Kind.TheVariants.{NameMismatch, Cycle, TooMany}
use Rattle.tla_ast.specs.declared.unit.Module.{Module}
use Rattle.proof_parser.specs.Modules.{module_of}
use Rattle.module_shelf.specs.declared.fault.LoadFault.{LoadFault}
use Rattle.module_shelf.specs.declared.fault.LoadFault.TheVariants as load

abbrev pub Text : Type 0
Text = List ℕ

-- a value, or why the loading stops
abbrev pub Outcome : Type 0 → Type 0
Outcome A = Result A LoadFault

-- what follows from a value
abbrev pub followed : {A B : Type 0} → Outcome A → (A → Outcome B) → Outcome B
followed (Ok a) next = next a
followed (Err e) next = Err e

-- one of these modules has this name
abbrev pub has : List Module → Text → Bool
has ms name = list_any (λ m. bytes_eq m.name name) ms

-- ---- one module

-- a module whose header has this name
abbrev pub named : Text → Module → Result Module Fault
named name m = if bytes_eq m.name name then Ok m else Err (fault.At m.header NameMismatch)

-- the module of this name that a text is read as
unfoldable pub module_in : Text → Bytes → Result Module Fault
module_in name text = and_then (tokens text) (λ (ts : Tokens). and_then (module_of ts.name ts.header ts.list) (named name))

-- a fault of what stands under this name
abbrev pub refused : Text → Fault → LoadFault
refused name fault.Memory = load.Memory
refused name (fault.At place kind) = load.Refused name place kind

-- a reading of what stands under this name
abbrev pub read_as : Text → Result Module Fault → Outcome Module
read_as name (Ok m) = Ok m
read_as name (Err e) = Err (refused name e)

-- the module of a text, or none, under this name
abbrev pub module_at : Text → Option Bytes → Outcome Module
module_at name None = Err (load.NotFound name)
module_at name (Some text) = read_as name (module_in name text)

-- the module of a name, of the text that is given, or else of what a folder has under the name: nothing under what is no identifier
abbrev pub find : Option Bytes → Folder → Text → Outcome Module
find None folder name = module_at name (if is_identifier name then folder name else None)
find (Some text) folder name = module_at name (Some text)

-- ---- the walk

-- An extended name, with its place in the module `inside`, where these names stand on the path from the root (`inside` is the
-- last) and these modules are complete: whether it has still to be loaded. A library's name means the library. A name on the path
-- is a cycle. A module that is complete is loaded once. The path and the complete modules are all that were begun: 64 at most.
unfoldable pub asks : List Text → List Module → Text → Text × Place → Outcome Bool
asks path done inside e =
    if is_library e.0 then Ok false
    else (if is_among path e.0 then Err (load.Refused inside e.1 (Cycle e.0))
    else (if has done e.0 then Ok false
    else (if nat_le 64 (length path + length done) then Err (load.Refused inside e.1 TooMany) else Ok true)))

-- the complete modules when this extended name was visited, whose module is completed where it asks for one
abbrev pub visit : Folder → List Text → Text → (Module → List Module → Outcome (List Module)) → List Module → Text × Place → Outcome (List Module)
visit folder path inside go done e = followed (asks path done inside e) (λ asked. if asked then followed (find None folder e.0) (λ m. go m done) else Ok done)

-- the complete modules when these were visited, from left to right
abbrev pub visited : (List Module → Text × Place → Outcome (List Module)) → List (Text × Place) → List Module → Outcome (List Module)
visited visit [] done = Ok done
visited visit (e ∷ es) done = followed (visit done e) (visited visit es)

-- The complete modules when this module is complete, and before it all that it extends. So many modules may stand on a path from
-- this one on; where none may, 64 stand on the path, and no name asks for a further one.
abbrev pub completed : ℕ → Folder → List Text → Module → List Module → Outcome (List Module)
completed zero folder path m done = Err (load.NotFound m.name)
completed (suc n) folder path m done =
    let now = path ++ m.name ∷ [] in
    followed (visited (visit folder now m.name (completed n folder now)) m.extends done) (λ ms. Ok (ms ++ m ∷ []))

-- the modules that are loaded, in the order in which they are complete; the root is the last
unfoldable pub loading : Option Bytes → Folder → Text → Outcome (List Module)
loading given folder root = followed (find given folder root) (λ m. completed 64 folder [] m [])
