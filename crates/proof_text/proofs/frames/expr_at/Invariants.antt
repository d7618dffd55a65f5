use Rattle.proof_text.specs.Frames.{AreWaiting, IsFrame, goal_of}
use Rattle.proof_text.proofs.frames.expr_at.Given as goal

abbrev pub invariant-loop : goal.invariant-loop
invariant-loop l = record {
  waiting : AreWaiting l.nodes l.root l.frames.items;
  frame : IsFrame l.nodes (goal_of l.nodes l.root l.frames.items) l.frame;
}
