use Rattle.std.proofs.Common.{◌≡◌, drop}
use Rattle.term_bank.specs.Banks.{Extends, IsDistinct}
use Rattle.branch_state.specs.Parts.{shown}
use Rattle.instance_terms.specs.Fresh.{fresh_of}
use Rattle.instance_terms.specs.Tasks.{signeds}
use Rattle.instance_ranks.specs.Seeking.{aim_of}
use Rattle.instance_ranks.specs.Partners.{by_atoms}
use Rattle.instance_ranks.proofs.partners.by_atoms.Given as goal

abbrev pub invariant-loop-i : goal.invariant-loop-i
invariant-loop-i l =
    let aim = aim_of l.fn.bank (shown l.parts).now l.s in
    record {
      extends : Extends l.fn.bank l.bank;
      distinct : IsDistinct l.bank;
      rest : by_atoms (fresh_of l.w) aim (signeds l.fn.bank (drop l.i l.atoms)) ≡ by_atoms (fresh_of l.w) aim (signeds l.fn.bank l.atoms);
    }
