use Rattle.term_walks.specs.Places.{AgreeBefore}
use Rattle.term_walks.proofs.places.first_apart.Given as goal

abbrev pub invariant-loop-k : goal.invariant-loop-k
invariant-loop-k l = AgreeBefore l.a l.b l.k
