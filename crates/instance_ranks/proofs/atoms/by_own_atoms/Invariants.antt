use Rattle.std.proofs.Common.{◌≡◌, drop}
use Rattle.term_bank.specs.Banks.{Extends, IsDistinct}
use Rattle.branch_state.specs.Parts.{shown}
use Rattle.tableau_search.specs.Entries.{branch_of}
use Rattle.formula_rules.specs.Answers.{universal_of}
use Rattle.instance_terms.specs.Fresh.{fresh_of}
use Rattle.instance_terms.specs.Tasks.{signeds}
use Rattle.instance_ranks.specs.Atoms.{of_atoms}
use Rattle.instance_ranks.proofs.atoms.by_own_atoms.Given as goal

abbrev pub invariant-loop-i : goal.invariant-loop-i
invariant-loop-i l =
    let ts = l.fn.bank in
    let b = branch_of ts (shown l.parts).now in
    let u = universal_of ts l.u in
    record {
      extends : Extends ts l.bank;
      distinct : IsDistinct l.bank;
      rest : of_atoms (fresh_of l.w) b u (signeds ts (drop l.i l.atoms)) ≡ of_atoms (fresh_of l.w) b u (signeds ts l.atoms);
    }
