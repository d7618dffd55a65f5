use Rattle.term_order.specs.Walks.{IsListing, weight}
use Rattle.term_order.proofs.subterms.closed_subterms.Given as goal

abbrev pub invariant-loop-i : goal.invariant-loop-i
invariant-loop-i l = IsListing l.bank l.e l.seen.keys l.found.items l.stack.items

abbrev pub decreases-loop-i : goal.decreases-loop-i
decreases-loop-i l = weight l.bank l.stack.items
