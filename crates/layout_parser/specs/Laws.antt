-- What readings of expressions are, in the words of the language.
use Rattle.std.specs.Prelude.{◌≡◌, ℕ, ◌<◌, true, nat_lt, List, ◌++◌, length, drop, Ok, Err}
use Rattle.std.specs.List.{All}
use Rattle.tla_ast.specs.declared.fault.Fault.{Fault}
use Rattle.tla_ast.specs.declared.token.Token.{Token}
use Rattle.tla_ast.specs.declared.tree.Node.{Node}
use Rattle.tla_ast.specs.Listing.{Ends}
use Rattle.token_reader.specs.declared.setting.Setting.{Setting}
use Rattle.token_reader.specs.Input.{Tokens, first}
use Rattle.token_reader.specs.Faults.{is_of_expressions, FaultIn}
use Rattle.layout_parser.specs.Reading.{expression, outermost, nestings_left, reading}
use Rattle.layout_parser.specs.Spelling.{Spells, Stops}

-- the reading of the tokens in this setting, where so many nestings may begin, is this node, and these tokens are left
abbrev pub IsReading : ℕ → Setting → Tokens → Node → Tokens → Type 0
IsReading left s ts n rest = expression left s ts ≡ Ok (n, rest)

-- these tokens, in their order, are what the reading used
abbrev pub Uses : Tokens → Tokens → (Tokens → Type 0) → Type 0
Uses ts rest P = (used : Tokens) × (ts ≡ used ++ rest) × P used

-- what is read is what the tokens that are used spell, in order, before those that are left
abbrev pub ReadInOrder : Type 0
ReadInOrder = (left : ℕ) (s : Setting) (ts : Tokens) (n : Node) (rest : Tokens) → IsReading left s ts n rest
    → Uses ts rest (λ used. Spells s.region s.has_at n used rest)

-- no token outside the region is used
abbrev pub InsideTheRegion : Type 0
InsideTheRegion = (left : ℕ) (s : Setting) (ts : Tokens) (n : Node) (rest : Tokens) → IsReading left s ts n rest
    → Uses ts rest (λ used. All (λ t. nat_lt s.region t.place.column ≡ true) used)

-- a reading ends at the first token that does not go on with it
abbrev pub EndIsExact : Type 0
EndIsExact = (left : ℕ) (s : Setting) (ts : Tokens) (n : Node) (rest : Tokens) → IsReading left s ts n rest → Stops s.region (first rest)

-- a list of tokens goes on where a reading ends, up to the token that ends it; a token at least is used
abbrev pub EndsBeforeTheLast : Type 0
EndsBeforeTheLast = (left : ℕ) (s : Setting) (ts : Tokens) (n : Node) (rest : Tokens) → Ends ts → IsReading left s ts n rest
    → Ends rest × (length rest < length ts)

-- a fault stands at a token of the list, and is Expected, Precedence, TooDeep or Unsupported
abbrev pub FaultsStandInTheList : Type 0
FaultsStandInTheList = (left : ℕ) (s : Setting) (ts : Tokens) (e : Fault) → Ends ts → expression left s ts ≡ Err e → FaultIn is_of_expressions ts e

-- A reading at a place of a list is that of the tokens from there on, and leaves those from its end on.
abbrev pub EndIsThePlace : Type 0
EndIsThePlace = (ts : List Token) (from region depth : ℕ) (n : Node) (to : ℕ) → reading ts from region depth ≡ Ok (n, to)
    → IsReading (nestings_left depth) (outermost region) (drop from ts) n (drop to ts)
