use Rattle.term_bank.specs.Banks.{Extends}
use Rattle.proof_checker.proofs.CheckLaws.{HasLast}
use Rattle.proof_checker.proofs.checker.put_facts.Given as goal

abbrev pub invariant-loop-i : goal.invariant-loop-i
invariant-loop-i l = HasLast l.bank l.left l.facts l.i × Extends l.fn.bank l.bank
