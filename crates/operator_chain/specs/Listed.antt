-- The operators of a chain are those of the table.
use Rattle.std.specs.Prelude.{◌≡◌, ℕ, false, List, [], ◌∷◌, Some, codes}
use Rattle.std_names.specs.declared.operators.Fix.TheVariants.{Prefix, Infix, Postfix}
use Rattle.std_names.specs.Operators as table
use Rattle.operator_chain.specs.declared.chain.Ending.{Ending}
use Rattle.operator_chain.specs.declared.chain.Ending.TheVariants as ending
use Rattle.operator_chain.specs.declared.chain.Piece.{Piece}
use Rattle.operator_chain.specs.declared.chain.Piece.TheVariants as piece

-- the sign of a postfix operator in the table
abbrev pub sign_of : Ending → List ℕ
sign_of ending.Prime = codes "'"
sign_of (ending.Index argument) = codes "["
sign_of (ending.Field name) = codes "."

-- an operator has the precedence that the table gives for its sign
abbrev pub IsListed : Piece → Type 0
IsListed (piece.Operand a) = Unit {0}
IsListed (piece.Prefix p) = table.operator p.sign Prefix ≡ Some (p.low, p.high, p.is_left)
IsListed (piece.Infix o) = table.operator o.sign Infix ≡ Some (o.low, o.high, o.is_left)
IsListed (piece.Postfix q) = table.operator (sign_of q.ending) Postfix ≡ Some (q.low, q.high, false)

-- so has each operator of the chain
abbrev pub AreListed : List Piece → Type 0
AreListed [] = Unit {0}
AreListed (x ∷ c) = IsListed x × AreListed c
