use Rattle.formula_rules.specs.Answers.{universal_of}
use Rattle.instance_terms.specs.Fresh.{meta_from}
use Rattle.instance_terms.specs.Tasks.{IsListing}
use Rattle.instance_terms.proofs.atoms.atoms_from.Given as goal

abbrev pub invariant-loop : goal.invariant-loop
invariant-loop l =
    IsListing l.fn.bank l.bank (meta_from l.first) (universal_of l.fn.bank l.fn.u) l.counter l.found.items l.stack.items
