use Rattle.std.proofs.Common.{ap}
use Rattle.branch_state.specs.Parts.{shown}
use Rattle.tableau_search.proofs.RankLaws.{known_more}
use Rattle.tableau_search.proofs.ClosedLaws.{closed_kept}
use Rattle.instance_terms.specs.Fresh.{fresh_of}
use Rattle.instance_ranks.specs.Atoms.{from_literals}
use Rattle.instance_ranks.proofs.KeepLaws.{aim_kept, next_term}
use Rattle.instance_ranks.proofs.atoms.by_atom.Goals as goal

pub from_literals-requires-clause-known : goal.from_literals-requires-clause-known
from_literals-requires-clause-known c = known_more c.args.bank.now c.by_failed_sides.new.bank (shown c.args.parts.now).now c.by_failed_sides.ensures.extends c.requires.known

pub from_literals-requires-clause-closed : goal.from_literals-requires-clause-closed
from_literals-requires-clause-closed c = closed_kept c.args.bank.now c.by_failed_sides.new.bank (shown c.args.parts.now).now c.by_failed_sides.ensures.extends c.requires.known c.requires.closed

pub returns-in-None-clause-ok : goal.returns-in-None-clause-ok
returns-in-None-clause-ok c =
    let ts = c.args.bank.now in
    let mid = c.by_failed_sides.new.bank in
    next_term c.from_literals.result c.from_literals.new.bank mid c.in_ok-term.field-0 _ _ _ c.in-None.is c.in_ok-term.ensures.ok (ap (from_literals (fresh_of c.args.w)) (aim_kept ts mid (shown c.args.parts.now).now c.args.s c.by_failed_sides.ensures.extends c.requires.known c.requires.sought)) c.from_literals.ensures.ok
