-- The state of the loop, as code keeps it.
use Rattle.std.specs.Prelude.{◌≡◌, ℕ, suc, ◌-◌, ◌<◌, ◌≤◌, Bool, List, [], ◌∷◌, length, map, drop}
use Rattle.std.proofs.Common.{get_or}
use Rattle.core_expr.specs.Tree.{Tree, true_}
use Rattle.proof_writer.specs.Written.{Written, opens, count, tree_at}
use Rattle.proof_trees.specs.Machine.{State, back}
use Rattle.proof_trees.specs.Machine.{Second as SecondSide}
use Rattle.seq_translate.specs.declared.state.Second.{Second}
use Rattle.search_trace.specs.declared.turn.Added.{Added}
use Rattle.search_trace.specs.declared.turn.Turn.{Turn}
use Rattle.search_trace.specs.Traces.{moves_of}
use Rattle.seq_translate.specs.Marks.{AreMarks}

-- a finished second side
abbrev pub side_of : Second → SecondSide
side_of s = record { number = s.number; needed = s.needed }

-- those that are kept with the latest last
abbrev pub laid : List SecondSide → List Second → List SecondSide
laid acc [] = acc
laid acc (s ∷ ss) = laid (side_of s ∷ acc) ss

-- the marks, the second sides and the open proofs are those of the state; the first trees are these
pub record IsState (ts : List Tree) (ms : List Bool) (ss : List Second) (w : Written) (s : State) : Type 0 where
  pub marks : AreMarks ts ms s.marks
  pub seconds : laid [] ss ≡ s.parts.seconds
  pub proofs : opens w ≡ s.parts.proofs
  pub more : length ts ≤ count w
  pub same : (i : ℕ) → i < length ts → tree_at w i ≡ get_or ts i true_

-- the tests of what is new
abbrev pub flags : List Added → List Bool
flags as' = map (λ (a : Added). a.is_new) as'

-- the state of the loop over turns when so many, the last ones, are done
abbrev pub IsRun : List Tree → List Turn → List Bool → List Second → Written → ℕ → Type 0
IsRun ts turns ms ss w done = IsState ts ms ss w (back (moves_of ts turns) (suc (length turns - done)) (drop (length turns - done) (moves_of ts turns)))
