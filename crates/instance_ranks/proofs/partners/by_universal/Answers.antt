use Rattle.std.proofs.Common.{ap, ◌∙◌}
use Rattle.search_definition.specs.Terms.{first_some}
use Rattle.branch_state.specs.Parts.{shown}
use Rattle.tableau_search.proofs.RankLaws.{known_more}
use Rattle.instance_terms.specs.Fresh.{fresh_of}
use Rattle.instance_terms.specs.Tasks.{signeds}
use Rattle.instance_ranks.specs.Partners.{atom_at}
use Rattle.instance_ranks.proofs.KeepLaws.{aim_kept, ok_term}
use Rattle.instance_ranks.proofs.partners.by_universal.Goals as goal

pub by_atoms-requires-clause-known : goal.by_atoms-requires-clause-known
by_atoms-requires-clause-known c = known_more c.args.bank.now c.partner_atoms.new.bank (shown c.args.parts.now).now c.partner_atoms.ensures.extends c.requires.known

pub returns-clause-ok : goal.returns-clause-ok
returns-clause-ok c =
    let ts = c.args.bank.now in
    let mid = c.partner_atoms.new.bank in
    ok_term c.by_atoms.result c.by_atoms.new.bank _ _
    (λ i. first_some (atom_at (fresh_of c.args.w) (aim_kept ts mid (shown c.args.parts.now).now c.args.s c.partner_atoms.ensures.extends c.requires.known c.requires.sought i)) ((ap (signeds mid) c.as_slice.ensures.value ∙ c.in_ok-atoms.ensures.ok) i))
    c.by_atoms.ensures.ok
