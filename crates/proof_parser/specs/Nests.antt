-- A function value that reads proofs in a further nesting.
use Rattle.std.specs.Prelude.{ℕ, List, Result}
use Rattle.std.specs.declared.alloc.Global.{Global}
use denote.Ref.{MutBor, Bor}
use Rattle.proof_parser.specs.Names.{Fault, Proof}
use Rattle.tla_ast.specs.Answers.{Reads}
use Rattle.token_reader.specs.Input.{Tokens}
use Rattle.proof_parser.specs.Modules.{subproof}

-- the function reads proofs where so many nestings may begin, and may always be called
pub record Nests (left : ℕ) (pre : Global → MutBor Tokens → ℕ → Bor (List ℕ) → Type 0)
    (post : Global → MutBor Tokens → ℕ → Bor (List ℕ) → Result Proof Fault → MutBor Tokens → Type 0) : Type 0 where
  pub callable : (alloc : Global) (old : MutBor Tokens) (levels : Bor (List ℕ)) → pre alloc old left levels
  pub reads : (alloc : Global) (old new : MutBor Tokens) (levels : Bor (List ℕ)) (r : Result Proof Fault) → post alloc old left levels r new
      → Reads (subproof left levels.now old.now) r new.now
