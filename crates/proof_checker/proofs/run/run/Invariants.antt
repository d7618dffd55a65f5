use Rattle.std.proofs.Common.{[], ◌∷◌, length, get_or, ◌-◌}
use Rattle.core_expr.specs.Nodes.{picked}
use Rattle.seq_calculus.specs.Calculus.{Correct}
use Rattle.seq_calculus.specs.Steps.{no_proof, proofs_of}
use Rattle.term_bank.specs.Banks.{Extends, tree_at}
use Rattle.proof_checker.specs.Sides.{seen}
use Rattle.proof_checker.specs.Runs.{IsRun, work}
use Rattle.proof_checker.proofs.run.run.Given as goal

abbrev pub invariant-loop-task : goal.invariant-loop-task
invariant-loop-task l =
    IsRun l.bank (proofs_of (picked l.fn.bank l.places) l.steps) (length l.steps) l.left.trail l.right.trail l.todo.items (Correct (get_or (proofs_of (picked l.fn.bank l.places) l.steps) (length l.steps - 1) no_proof) (seen l.fn.bank l.fn.left) (tree_at l.fn.bank l.goal ∷ []))
    × Extends l.fn.bank l.bank

abbrev pub decreases-loop-task : goal.decreases-loop-task
decreases-loop-task l = work (proofs_of (picked l.fn.bank l.places) l.steps) l.todo.items
