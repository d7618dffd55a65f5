-- The stack of open operators, as the code keeps it.
use Rattle.std.specs.Str.{bytes_eq}
use Rattle.std.specs.Prelude.{◌≡◌, ℕ, Bool, true, false, if◌then◌else◌, ◌&&◌, nat_lt, List, [], ◌∷◌, ◌++◌, Option, Some, None}
use Rattle.operator_chain.specs.declared.chain.Operator.{Operator}
use Rattle.tla_ast.specs.declared.place.Place.{Place}
use Rattle.tla_ast.specs.declared.tree.Node.{Node, roll-Node}
use Rattle.tla_ast.specs.declared.tree.Form.TheVariants as form
use Rattle.operator_chain.specs.declared.chain.Piece.{Piece}
use Rattle.operator_chain.specs.declared.chain.Piece.TheVariants as piece
use Rattle.operator_chain.specs.declared.stack.Open.{Open}
use Rattle.operator_chain.specs.declared.stack.Open.TheVariants as opened
use Rattle.operator_chain.specs.declared.stack.Stack.{Stack}
use Rattle.operator_chain.specs.Tree.{Tree, leaf, prefixed, suffixed, joined, node_of, stands}
use Rattle.operator_chain.specs.Chain.{plain, or_else}

-- an operator whose last operand is still to come, with its left operand
pub data Frame : Type 0 where
  in_prefixed : Operator → Frame
  in_joined : Tree → Operator → Frame

-- the frame with this last operand
abbrev pub around : Frame → Tree → Tree
around (in_prefixed p) t = prefixed p t
around (in_joined l o) t = joined l o t

-- the innermost part first
abbrev pub plug : List Frame → Tree → Tree
plug [] t = t
plug (f ∷ fs) t = plug fs (around f t)

-- the operator of a frame
abbrev pub operator_of : Frame → Operator
operator_of (in_prefixed p) = p
operator_of (in_joined l o) = o

-- the frame has this infix operator, which is left-associative
abbrev pub is_same : Frame → Operator → Bool
is_same (in_prefixed p) o = false
is_same (in_joined l s) o = o.is_left && bytes_eq s.sign o.sign

-- the tree may be the last operand of the innermost frame
abbrev pub stands_inner : List Frame → Tree → Bool
stands_inner [] t = true
stands_inner (f ∷ fs) t = stands (operator_of f).high t

-- the frames that stay open, and the left operand of this infix operator
abbrev pub popped : Operator → List Frame → Tree → List Frame × Tree
popped o [] t = ([], t)
popped o (f ∷ fs) t = let more = popped o fs (around f t) in
    let one = if is_same f o then (fs, around f t) else (f ∷ fs, t) in
    if nat_lt o.high (operator_of f).low then more else one

-- what was read so far: the frames, the operand after them, whether the frames are right, and the first operator that was wrong
pub record State : Type 0 where
  pub frames : List Frame
  pub last : Tree
  pub is_sound : Bool
  pub wrong : Option Place

-- the chain so far has a right tree
abbrev pub is_alive : State → Bool
is_alive s = s.is_sound && stands_inner s.frames s.last

-- the place is noted where the chain has no right tree so far
abbrev pub noted : Place → State → State
noted place s = record s { wrong = if is_alive s then s.wrong else or_else s.wrong (Some place) }

-- after an infix operator
abbrev pub with_infix : Operator → Bool → Option Place → List Frame × Tree → State
with_infix o alive wrong p = record { frames = in_joined p.1 o ∷ p.0; last = plain; is_sound = alive && stands_inner p.0 (joined p.1 o plain); wrong = wrong }

-- after one more piece
abbrev pub moved : State → Piece → State
moved s (piece.Operand a) = record s { last = leaf a }
moved s (piece.Prefix p) = noted p.place (record s { frames = in_prefixed p ∷ s.frames; last = plain })
moved s (piece.Postfix q) = noted q.place (record s { last = suffixed s.last q })
moved s (piece.Infix o) = noted o.place (with_infix o (is_alive s) s.wrong (popped o s.frames s.last))

-- after these pieces
abbrev pub moved_all : State → List Piece → State
moved_all s [] = s
moved_all s (x ∷ xs) = moved_all (moved s x) xs

-- before the first piece
abbrev pub start : State
start = record { frames = []; last = plain; is_sound = true; wrong = None }

-- ---- what the code keeps

-- a frame as the code keeps it
abbrev pub open_of : Frame → Open
open_of (in_prefixed p) = opened.Prefix p
open_of (in_joined l o) = opened.Infix (node_of l) o

-- as they lie in the code, the innermost last
abbrev pub stacked : List Frame → List Open
stacked [] = []
stacked (f ∷ fs) = stacked fs ++ (open_of f ∷ [])

-- the stack of the code has this state
pub record Shows (s : State) (k : Stack) : Type 0 where
  pub parts : k.parts ≡ stacked s.frames
  pub last : k.last ≡ node_of s.last
  pub is_sound : k.is_sound ≡ s.is_sound
  pub is_alive : k.is_alive ≡ is_alive s
  pub wrong : k.wrong ≡ s.wrong

-- the operator of a part
abbrev pub operator_in : Open → Operator
operator_in (opened.Prefix p) = p
operator_in (opened.Infix l o) = o

-- the node of a part with its last operand
abbrev pub closes : Open → Node → Node
closes (opened.Prefix p) last = roll-Node (record { form = form.Prefix p.sign; parts = last ∷ []; place = p.place })
closes (opened.Infix l o) last = roll-Node (record { form = form.Infix o.sign; parts = l ∷ last ∷ []; place = o.place })

-- the part has this infix operator, which is left-associative
abbrev pub is_same_part : Open → Operator → Bool
is_same_part (opened.Prefix p) o = false
is_same_part (opened.Infix l s) o = o.is_left && bytes_eq s.sign o.sign

-- an operator of this low may stand under the innermost one
abbrev pub may_stand : List Frame → ℕ → Bool
may_stand [] low = true
may_stand (f ∷ fs) low = nat_lt (operator_of f).high low

-- the parts and the last operand are these
abbrev pub Keeps : List Open → Node → List Frame × Tree → Type 0
Keeps parts last p = (parts ≡ stacked p.0) × (last ≡ node_of p.1)
