use Rattle.std.proofs.Common.{drop}
use Rattle.term_bank.specs.Banks.{Extends, IsDistinct}
use Rattle.formula_rules.proofs.Listing.{IsListing}
use Rattle.leaf_prover.proofs.start.intern_facts.Given as goal

abbrev pub invariant-loop-i : goal.invariant-loop-i
invariant-loop-i l = IsListing l.bank l.list.items (drop l.i l.facts) l.facts × Extends l.fn.bank l.bank × IsDistinct l.bank
