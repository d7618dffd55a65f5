use Rattle.std.proofs.Common.{take}
use Rattle.core_expr.specs.Nodes.{picked}
use Rattle.seq_calculus.specs.Schemas.{equal_pairs}
use Rattle.term_bank.specs.Banks.{Extends}
use Rattle.proof_checker.specs.Tables.{ArePlaced}
use Rattle.proof_checker.proofs.tuple.equations.Given as goal

abbrev pub invariant-loop-i : goal.invariant-loop-i
invariant-loop-i l = ArePlaced l.bank (equal_pairs (take l.i (picked l.fn.bank l.left)) (take l.i (picked l.fn.bank l.right))) l.out.items × Extends l.fn.bank l.bank
