-- Trees of operands and operators, and which of them are right.
use Rattle.std.specs.Prelude.{ℕ, Bool, true, false, ◌&&◌, ◌||◌, nat_lt, List, [], ◌∷◌, ◌++◌}
use Rattle.std.specs.Str.{bytes_eq}
use Rattle.tla_ast.specs.declared.place.Place.{Place}
use Rattle.tla_ast.specs.declared.tree.Node.{Node, roll-Node}
use Rattle.tla_ast.specs.declared.tree.Form.TheVariants as form
use Rattle.operator_chain.specs.declared.chain.Ending.{Ending}
use Rattle.operator_chain.specs.declared.chain.Ending.TheVariants as ending
use Rattle.operator_chain.specs.declared.chain.Suffix.{Suffix}
use Rattle.operator_chain.specs.declared.chain.Operator.{Operator}
use Rattle.operator_chain.specs.declared.chain.Piece.{Piece}
use Rattle.operator_chain.specs.declared.chain.Piece.TheVariants as piece

-- an operand is a node of its own, whatever its form: what stands in parentheses is one
pub data Tree : Type 0 where
  leaf : Node → Tree
  prefixed : Operator → Tree → Tree
  suffixed : Tree → Suffix → Tree
  joined : Tree → Operator → Tree → Tree

-- a plain operand
abbrev pub hole : Node
hole = roll-Node (record { form = form.At; parts = []; place = record { line = 1; column = 1 } })

-- the node of an operand with a postfix operator
abbrev pub ended : Ending → Node → Place → Node
ended ending.Prime operand place = roll-Node (record { form = form.Prime; parts = operand ∷ []; place = place })
ended (ending.Index argument) operand place = roll-Node (record { form = form.Index; parts = operand ∷ argument ∷ []; place = place })
ended (ending.Field name) operand place = roll-Node (record { form = form.Field name; parts = operand ∷ []; place = place })

-- the node of a tree
abbrev pub node_of : Tree → Node
node_of (leaf a) = a
node_of (prefixed p t) = roll-Node (record { form = form.Prefix p.sign; parts = node_of t ∷ []; place = p.place })
node_of (suffixed t q) = ended q.ending (node_of t) q.place
node_of (joined l o r) = roll-Node (record { form = form.Infix o.sign; parts = node_of l ∷ node_of r ∷ []; place = o.place })

-- the pieces of a tree from left to right
abbrev pub flat : Tree → List Piece
flat (leaf a) = piece.Operand a ∷ []
flat (prefixed p t) = piece.Prefix p ∷ flat t
flat (suffixed t q) = flat t ++ (piece.Postfix q ∷ [])
flat (joined l o r) = flat l ++ (piece.Infix o ∷ flat r)

-- may stand to the right of an operator with this high: its top is prefix or no operator, or has a greater low
abbrev pub stands : ℕ → Tree → Bool
stands high (leaf a) = true
stands high (prefixed p t) = true
stands high (suffixed t q) = nat_lt high q.low
stands high (joined l o r) = nat_lt high o.low

-- each operator on the right spine has a low over this high; the test says whether postfix operators are free
abbrev pub over : Bool → ℕ → Tree → Bool
over is_free high (leaf a) = true
over is_free high (prefixed p t) = nat_lt high p.low && over is_free high t
over is_free high (suffixed t q) = is_free || nat_lt high q.low
over is_free high (joined l o r) = nat_lt high o.low && over is_free high r

-- may be the left operand of the infix operator: as `over`, and the top may be that operator where it is left-associative
abbrev pub before_infix : Operator → Tree → Bool
before_infix o (leaf a) = true
before_infix o (prefixed p t) = over false o.high (prefixed p t)
before_infix o (suffixed t q) = over false o.high (suffixed t q)
before_infix o (joined l s r) = ((o.is_left && bytes_eq s.sign o.sign) || nat_lt o.high s.low) && over false o.high r

-- the rules for a right tree
abbrev pub is_right : Tree → Bool
is_right (leaf a) = true
is_right (prefixed p t) = stands p.high t && is_right t
is_right (suffixed t q) = over true q.high t && is_right t
is_right (joined l o r) = before_infix o l && (stands o.high r && (is_right l && is_right r))
