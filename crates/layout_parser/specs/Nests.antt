-- What a function that reads chains ensures, and a function value that reads in a further nesting.
use Rattle.std.specs.Prelude.{◌≡◌, ℕ, Bool, Option, Some, None, Result, Ok, Err}
use Rattle.core_expr.specs.declared.memory.Memory.{Memory}
use Rattle.std.specs.declared.alloc.Global.{Global}
use denote.Ref.{MutBor}
use Rattle.tla_ast.specs.declared.fault.Fault.{Fault}
use Rattle.layout_parser.specs.declared.flat.Flat.{Flat}
use Rattle.layout_parser.specs.declared.flat.Step.{Step}
use Rattle.layout_parser.specs.declared.flat.Step.TheVariants.{More, Ended, Broken}
use Rattle.token_reader.specs.declared.setting.Setting.{Setting}
use Rattle.token_reader.specs.Input.{Tokens}
use Rattle.layout_parser.specs.Reading.{Chain, Stepped, nested}

-- after a fault nothing is said of the tokens that are left
abbrev pub ended : Option Fault → Tokens → Result Tokens Fault
ended None ts = Ok ts
ended (Some e) ts = Err e

-- the chain that was read, before these tokens
abbrev pub chain_of : Flat → Tokens → Chain
chain_of f rest = (f.pieces.items, ended f.fault rest)

-- the pieces and the end are those of the chain
abbrev pub Flats : Chain → Result Flat Memory → Tokens → Type 0
Flats c (Ok f) new = (f.pieces.items ≡ c.0) × (c.1 ≡ ended f.fault new)
Flats c (Err e) new = Unit {0}

-- the step is that one
abbrev pub Steps : Stepped → Result Step Memory → Tokens → Type 0
Steps p (Ok (Broken x e)) new = p.0 ≡ Broken x e
Steps p (Ok (More x waits)) new = p ≡ (More x waits, new)
Steps p (Ok Ended) new = p ≡ (Ended, new)
Steps p (Err e) new = Unit {0}

-- the function reads chains where so many nestings may begin, and may always be called
pub record Nests (left : ℕ) (pre : Global → MutBor Tokens → ℕ → ℕ → Setting → Bool → Type 0)
    (post : Global → MutBor Tokens → ℕ → ℕ → Setting → Bool → Result Flat Memory → MutBor Tokens → Type 0) : Type 0 where
  pub callable : (alloc : Global) (old : MutBor Tokens) (n : ℕ) (s : Setting) (waits : Bool) → pre alloc old left n s waits
  pub reads : (alloc : Global) (old new : MutBor Tokens) (n : ℕ) (s : Setting) (waits : Bool) (r : Result Flat Memory) → post alloc old left n s waits r new
      → Flats (nested left n s waits old.now) r new.now
