-- A chain is read as its one right tree.
use Rattle.std.specs.Prelude.{◌≡◌, Bool, true, false, if◌then◌else◌, List, [], ◌∷◌, ◌++◌, Option, Some, None, ◌↔◌}
use Rattle.operator_chain.specs.declared.chain.Operator.{Operator}
use Rattle.operator_chain.specs.declared.chain.Piece.{Piece}
use Rattle.operator_chain.specs.declared.chain.Piece.TheVariants as piece
use Rattle.operator_chain.specs.Listed.{AreListed}
use Rattle.operator_chain.specs.declared.chain.Suffix.{Suffix}
use Rattle.tla_ast.specs.declared.place.Place.{Place}
use Rattle.tla_ast.specs.declared.fault.Fault.{Fault}
use Rattle.tla_ast.specs.declared.fault.Fault.TheVariants as fault
use Rattle.tla_ast.specs.declared.fault.Kind.TheVariants.{Precedence}
use Rattle.operator_chain.specs.Tree.{Tree, leaf, prefixed, suffixed, joined, hole, flat, before_infix, is_right}

-- a plain operand
abbrev pub plain : Tree
plain = leaf hole

-- the tree with this in the place of its last operand
abbrev pub filled : Tree → Tree → Tree
filled x (leaf a) = x
filled x (prefixed p t) = prefixed p (filled x t)
filled x (suffixed t q) = suffixed t q
filled x (joined l o r) = joined l o (filled x r)

-- the infix operator with a plain operand after it, at the first place of the right spine that it may have
abbrev pub put : Operator → Tree → Tree
put o (leaf a) = joined (leaf a) o plain
put o (suffixed t q) = joined (suffixed t q) o plain
put o (prefixed p t) = if before_infix o (prefixed p t) then joined (prefixed p t) o plain else prefixed p (put o t)
put o (joined l s r) = if before_infix o (joined l s r) then joined (joined l s r) o plain else joined l s (put o r)

-- the postfix operator behind the last operand and the postfix operators that it has
abbrev pub behind : Suffix → Tree → Tree
behind q (leaf a) = suffixed (leaf a) q
behind q (suffixed t s) = suffixed (suffixed t s) q
behind q (prefixed p t) = prefixed p (behind q t)
behind q (joined l o r) = joined l o (behind q r)

-- with one more piece
abbrev pub grown : Tree → Piece → Tree
grown t (piece.Operand a) = filled (leaf a) t
grown t (piece.Prefix p) = filled (prefixed p plain) t
grown t (piece.Infix o) = put o t
grown t (piece.Postfix q) = behind q t

-- the only tree of a chain that can be right, where a last operator has a plain operand after it
abbrev pub shape_from : Tree → List Piece → Tree
shape_from t [] = t
shape_from t (x ∷ xs) = shape_from (grown t x) xs

-- from the plain operand on
abbrev pub shape : List Piece → Tree
shape = shape_from plain

-- the place of an operator
abbrev pub place_of : Piece → Option Place
place_of (piece.Operand a) = None
place_of (piece.Prefix p) = Some p.place
place_of (piece.Infix o) = Some o.place
place_of (piece.Postfix q) = Some q.place

-- the first, and the second where there is none
abbrev pub or_else : Option Place → Option Place → Option Place
or_else (Some p) o = Some p
or_else None o = o

-- the place of the piece, where the chain up to it has no right tree
abbrev pub wrong_at : Tree → Piece → Option Place
wrong_at t x = if is_right t then None else place_of x

-- the place of the first operator such that the chain up to it has no right tree
abbrev pub first_wrong_from : Tree → List Piece → Option Place
first_wrong_from t [] = None
first_wrong_from t (x ∷ xs) = or_else (wrong_at (grown t x) x) (first_wrong_from (grown t x) xs)

-- of a whole chain, also where the chain has a right tree that its front has not
abbrev pub first_wrong : List Piece → Option Place
first_wrong = first_wrong_from plain

-- the fault: only where the chain as a whole has no right tree
abbrev pub fault_of : List Piece → Option Place
fault_of c = if is_right (shape c) then None else first_wrong c

-- the right tree
abbrev pub tree_of : List Piece → Option Tree
tree_of c = if is_right (shape c) then Some (shape c) else None

-- the fault is Precedence at this operator, and the chain has no right tree
abbrev pub IsFaultOf : List Piece → Fault → Type 0
IsFaultOf c e = (p : Place) × (e ≡ fault.At p Precedence) × (tree_of c ≡ None) × (fault_of c ≡ Some p)

-- the front of a chain: operands stand where they must; the test says whether one must come next
abbrev pub IsChain : Bool → List Piece → Type 0
IsChain true [] = Unit {0}
IsChain true (piece.Operand a ∷ c) = IsChain false c
IsChain true (piece.Prefix p ∷ c) = IsChain true c
IsChain true (piece.Infix o ∷ c) = ⊥
IsChain true (piece.Postfix q ∷ c) = ⊥
IsChain false [] = Unit {0}
IsChain false (piece.Operand a ∷ c) = ⊥
IsChain false (piece.Prefix p ∷ c) = ⊥
IsChain false (piece.Infix o ∷ c) = IsChain true c
IsChain false (piece.Postfix q ∷ c) = IsChain false c

-- each piece stands where it may, and the last is an operand with its postfix operators
abbrev pub IsWhole : Bool → List Piece → Type 0
IsWhole true [] = ⊥
IsWhole true (piece.Operand a ∷ c) = IsWhole false c
IsWhole true (piece.Prefix p ∷ c) = IsWhole true c
IsWhole true (piece.Infix o ∷ c) = ⊥
IsWhole true (piece.Postfix q ∷ c) = ⊥
IsWhole false [] = Unit {0}
IsWhole false (piece.Operand a ∷ c) = ⊥
IsWhole false (piece.Prefix p ∷ c) = ⊥
IsWhole false (piece.Infix o ∷ c) = IsWhole true c
IsWhole false (piece.Postfix q ∷ c) = IsWhole false c

-- a chain has at most one right tree, and `tree_of` gives it
abbrev pub OneRightTree : Type 0
OneRightTree = (c : List Piece) (t : Tree) → IsWhole true c → AreListed c → ((flat t ≡ c) × (is_right t ≡ true)) ↔ (tree_of c ≡ Some t)

-- some tree of the chain is right
abbrev pub HasRightTree : List Piece → Type 0
HasRightTree c = (t : Tree) × (flat t ≡ c) × (is_right t ≡ true)

-- an operand must come after this piece
abbrev pub is_waiting : Piece → Bool
is_waiting (piece.Operand a) = false
is_waiting (piece.Prefix p) = true
is_waiting (piece.Infix o) = true
is_waiting (piece.Postfix q) = false

-- the chain with a plain operand after it where one must come; the test says whether one must come first
abbrev pub finished : Bool → List Piece → List Piece
finished true [] = piece.Operand hole ∷ []
finished false [] = []
finished waits (x ∷ c) = x ∷ finished (is_waiting x) c

-- the chain up to this piece, which stands behind the others
abbrev pub up_to : List Piece → Piece → List Piece
up_to done x = finished true (done ++ x ∷ [])

-- the chain has no right tree, and this is the place of the first operator up to which it has none
pub record FaultAt (c : List Piece) (p : Place) : Type 0 where
  pub whole : HasRightTree (finished true c) → ⊥
  pub done : List Piece
  pub operator : Piece
  pub rest : List Piece
  pub is : c ≡ done ++ operator ∷ rest
  pub place : place_of operator ≡ Some p
  pub none : HasRightTree (up_to done operator) → ⊥
  pub first : (before : List Piece) (x : Piece) (after : List Piece) (q : Place) → done ≡ before ++ x ∷ after → place_of x ≡ Some q → HasRightTree (up_to before x)

-- where the fault stands, by the right trees of the chain and of its fronts alone
abbrev pub FirstFault : Type 0
FirstFault = (c : List Piece) (p : Place) → IsChain true c → AreListed c → (fault_of c ≡ Some p) ↔ FaultAt c p
