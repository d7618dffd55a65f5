use Rattle.std.proofs.Common.{◌≡◌, drop}
use Rattle.term_bank.specs.Banks.{Extends, IsDistinct}
use Rattle.search_definition.specs.Terms.{first_some}
use Rattle.search_definition.specs.Instances.{at_place}
use Rattle.branch_state.specs.Parts.{shown}
use Rattle.tableau_search.specs.Entries.{branch_of}
use Rattle.instance_terms.specs.Fresh.{fresh_of}
use Rattle.instance_ranks.specs.Lives.{places_of}
use Rattle.instance_ranks.proofs.ranks.first_instance.Given as goal

abbrev pub invariant-loop-i : goal.invariant-loop-i
invariant-loop-i l =
    let ts = l.fn.bank in
    let gives = at_place (branch_of ts (shown l.parts).now) (fresh_of l.w) in
    record {
      extends : Extends ts l.bank;
      distinct : IsDistinct l.bank;
      rest : first_some gives (places_of ts (drop l.i l.list)) ≡ first_some gives (places_of ts l.list);
    }
