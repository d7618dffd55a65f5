use Rattle.std.proofs.Common.{◌≡◌, drop}
use Rattle.term_bank.specs.Banks.{Extends, IsDistinct}
use Rattle.search_definition.specs.Terms.{first_some}
use Rattle.search_definition.specs.Instances.{places, spare_at}
use Rattle.branch_state.specs.Parts.{shown}
use Rattle.tableau_search.specs.Entries.{branch_of}
use Rattle.instance_terms.specs.Fresh.{fresh_of}
use Rattle.instance_ranks.proofs.ranks.first_spare.Given as goal

abbrev pub invariant-loop-i : goal.invariant-loop-i
invariant-loop-i l =
    let ts = l.fn.bank in
    let es = (shown l.parts).now in
    let gives = spare_at (branch_of ts es) (fresh_of l.w) in
    record {
      extends : Extends ts l.bank;
      distinct : IsDistinct l.bank;
      rest : first_some gives (places l.i (branch_of ts (drop l.i es))) ≡ first_some gives (places 0 (branch_of ts es));
    }
