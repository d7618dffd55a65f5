use Rattle.std.proofs.Common.{drop}
use Rattle.core_expr.specs.Nodes.{picked, trees_from}
use Rattle.term_bank.specs.Banks.{Extends}
use Rattle.proof_checker.specs.Tables.{cells_of}
use Rattle.proof_checker.proofs.NodeLaws.{IsTable}
use Rattle.proof_checker.proofs.nodes.add_cells.Given as goal

abbrev pub invariant-loop-i : goal.invariant-loop-i
invariant-loop-i l =
    IsTable l.bank l.places.items (cells_of (drop l.i l.cells)) (trees_from (picked l.fn.bank l.fn.places.items) (cells_of l.cells)) × Extends l.fn.bank l.bank
