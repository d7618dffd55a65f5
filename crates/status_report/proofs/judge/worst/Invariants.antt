use Rattle.std.proofs.Common.{◌≡◌, drop}
use Rattle.proof_contexts.specs.Statuses.{worst}
use Rattle.status_report.specs.Statuses.{leaf_verdicts}
use Rattle.status_report.specs.Telling.{verdict_in, worse}
use Rattle.status_report.proofs.judge.worst.Given as goal

abbrev pub invariant-loop-leaf : goal.invariant-loop-leaf
invariant-loop-leaf l = worse (verdict_in l.found) (worst (leaf_verdicts (drop l.leaf-index l.leaves))) ≡ worst (leaf_verdicts l.leaves)
