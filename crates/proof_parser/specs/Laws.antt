-- What readings of modules are, in the words of the language.
use Rattle.std.specs.Prelude.{◌≡◌, Bool, true, ◌++◌, Ok, Err}
use Rattle.tla_ast.specs.Listing.{Ends}
use Rattle.proof_parser.specs.Names.{Place, Fault, Kind, StepLevel, NoQed, Module, Text}
use Rattle.tla_ast.specs.declared.token.Tok.TheVariants as tok
use Rattle.token_reader.specs.Input.{Tokens, first}
use Rattle.token_reader.specs.Faults.{is_of_expressions, FaultIn}
use Rattle.proof_parser.specs.Modules.{module_of}
use Rattle.proof_parser.specs.Spelling.{SpellsModule}

-- the kinds of fault that a module may have: those of expressions, and those of steps
abbrev pub is_of_modules : Kind → Bool
is_of_modules StepLevel = true
is_of_modules NoQed = true
is_of_modules k = is_of_expressions k

-- a fault stands at a token of the list, and is Expected, Precedence, TooDeep, Unsupported, StepLevel or NoQed
abbrev pub FaultsStandInTheList : Type 0
FaultsStandInTheList = (x : Text) (header : Place) (ts : Tokens) (e : Fault) → Ends ts → module_of x header ts ≡ Err e → FaultIn is_of_modules ts e

-- the module has this name and header, and the tokens from the first up to the end token are a spelling of it
abbrev pub IsInOrder : Text → Place → Tokens → Module → Type 0
IsInOrder x header ts u = (used rest : Tokens) × (ts ≡ used ++ rest) × ((first rest).tok ≡ tok.End) × (u.name ≡ x) × (u.header ≡ header) × SpellsModule u used rest

-- what is read is what the tokens from the first up to the end token spell, in order
abbrev pub ReadInOrder : Type 0
ReadInOrder = (x : Text) (header : Place) (ts : Tokens) (u : Module) → module_of x header ts ≡ Ok u → IsInOrder x header ts u
