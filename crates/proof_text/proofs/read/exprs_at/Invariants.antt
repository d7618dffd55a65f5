use Rattle.std.proofs.Common.{◌≡◌, take}
use Rattle.core_expr.specs.Nodes.{picked}
use Rattle.proof_text.specs.Texts.{trees_in}
use Rattle.proof_text.proofs.read.exprs_at.Given as goal

abbrev pub invariant-loop-place : goal.invariant-loop-place
invariant-loop-place l = l.exprs ≡ picked (trees_in l.nodes) (take l.place-index l.places)
