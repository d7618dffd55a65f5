use Rattle.std.proofs.Common.{◌≡◌, drop}
use Rattle.std.specs.List.{list_all}
use Rattle.core_expr.specs.Flat.{rows_of}
use Rattle.leaf_prover.proofs.NodeLaws.{stands}
use Rattle.leaf_prover.proofs.form.is_canonical.Given as goal

abbrev pub invariant-loop-i : goal.invariant-loop-i
invariant-loop-i l = list_all stands (drop l.i (rows_of l.e)) ≡ list_all stands (rows_of l.e)
