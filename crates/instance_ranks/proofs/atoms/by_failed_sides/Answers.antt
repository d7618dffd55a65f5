use Rattle.search_definition.specs.Instances.{sides_term}
use Rattle.branch_state.specs.Parts.{shown}
use Rattle.tableau_search.proofs.RankLaws.{known_more}
use Rattle.instance_terms.specs.Fresh.{fresh_of, signed_of}
use Rattle.instance_ranks.proofs.KeepLaws.{term_closed, new_by, ok_term}
use Rattle.instance_ranks.proofs.ClosedLaws.{sides_closed}
use Rattle.instance_ranks.proofs.atoms.by_failed_sides.Goals as goal

pub if_new-requires-clause-known : goal.if_new-requires-clause-known
if_new-requires-clause-known c = known_more c.args.bank.now c.sides_term.new.bank (shown c.args.parts.now).now c.sides_term.ensures.extends c.requires.known

pub if_new-requires-clause-term : goal.if_new-requires-clause-term
if_new-requires-clause-term c = term_closed c.sides_term.new.bank c.in_ok-term.term _ c.in_ok-term.ensures.ok (sides_closed (fresh_of c.args.w) (signed_of c.args.bank.now c.args.s.atom))

pub returns-clause-ok : goal.returns-clause-ok
returns-clause-ok c =
    let ts = c.args.bank.now in
    ok_term c.if_new.result c.if_new.new.bank _ _ (new_by ts c.sides_term.new.bank (shown c.args.parts.now).now c.args.s c.in_ok-term.term (sides_term (fresh_of c.args.w) (signed_of c.args.bank.now c.args.s.atom)) c.sides_term.ensures.extends c.requires.known c.requires.sought c.in_ok-term.ensures.ok) c.if_new.ensures.ok
