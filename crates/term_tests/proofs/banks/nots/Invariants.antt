use Rattle.core_expr.specs.Heads.{IsCanonical}
use Rattle.term_tests.proofs.banks.nots.Given as goal

abbrev pub invariant-loop : goal.invariant-loop
invariant-loop l = IsCanonical l.e
