use Rattle.std.proofs.Common.{ap, ◌∙◌}
use Rattle.search_definition.specs.Terms.{first_some}
use Rattle.search_definition.specs.Instances.{by_atom, found_term}
use Rattle.branch_state.specs.Parts.{shown}
use Rattle.tableau_search.proofs.LiftLaws.{branch_kept}
use Rattle.tableau_search.proofs.RankLaws.{known_more}
use Rattle.tableau_search.proofs.ClosedLaws.{closed_kept}
use Rattle.instance_terms.specs.Fresh.{fresh_of}
use Rattle.instance_terms.specs.Tasks.{signeds}
use Rattle.instance_ranks.proofs.KeepLaws.{universal_kept, ok_term}
use Rattle.instance_ranks.proofs.atoms.found_term.Goals as goal

pub by_own_atoms-requires-clause-known : goal.by_own_atoms-requires-clause-known
by_own_atoms-requires-clause-known c = known_more c.args.bank.now c.own_atoms.new.bank (shown c.args.parts.now).now c.own_atoms.ensures.extends c.requires.known

pub by_own_atoms-requires-clause-closed : goal.by_own_atoms-requires-clause-closed
by_own_atoms-requires-clause-closed c = closed_kept c.args.bank.now c.own_atoms.new.bank (shown c.args.parts.now).now c.own_atoms.ensures.extends c.requires.known c.requires.closed

pub returns-clause-ok : goal.returns-clause-ok
unfolding found_term
returns-clause-ok c =
    let ts = c.args.bank.now in
    let mid = c.own_atoms.new.bank in
    let x = c.own_atoms.ensures.extends in
    ok_term c.by_own_atoms.result c.by_own_atoms.new.bank _ _
    (λ i. first_some (by_atom (branch_kept ts mid (shown c.args.parts.now).now x c.requires.known i) (fresh_of c.args.w) (universal_kept ts mid c.args.u x c.requires.body i)) ((ap (signeds mid) c.as_slice.ensures.value ∙ c.in_ok-atoms.ensures.ok) i)) c.by_own_atoms.ensures.ok
