use Rattle.std.proofs.Common.{◌≡◌, drop}
use Rattle.term_bank.specs.Banks.{Extends, IsDistinct}
use Rattle.search_definition.specs.Terms.{first_some}
use Rattle.search_definition.specs.Branches.{alive}
use Rattle.branch_state.specs.Parts.{shown}
use Rattle.tableau_search.specs.Entries.{branch_of}
use Rattle.instance_terms.specs.Fresh.{fresh_of}
use Rattle.instance_ranks.specs.Seeking.{aim_of}
use Rattle.instance_ranks.specs.Partners.{partner_at}
use Rattle.instance_ranks.proofs.entries.by_entries.Given as goal

abbrev pub invariant-loop-i : goal.invariant-loop-i
invariant-loop-i l =
    let ts = l.fn.bank in
    let es = (shown l.parts).now in
    let gives = partner_at ts (fresh_of l.w) l.kind (aim_of ts es l.s) in
    record {
      extends : Extends ts l.bank;
      distinct : IsDistinct l.bank;
      rest : first_some gives (alive (branch_of ts (drop l.i es))) ≡ first_some gives (alive (branch_of ts es));
    }
