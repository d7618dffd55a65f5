use Rattle.std.proofs.Common.{ap}
use Rattle.branch_state.specs.Parts.{shown}
use Rattle.tableau_search.proofs.RankLaws.{known_more}
use Rattle.tableau_search.proofs.ClosedLaws.{closed_kept}
use Rattle.instance_terms.specs.Fresh.{fresh_of}
use Rattle.instance_ranks.specs.Atoms.{where_held}
use Rattle.instance_ranks.proofs.KeepLaws.{aim_kept, next_term}
use Rattle.instance_ranks.proofs.atoms.from_universals.Goals as goal

pub by_held_sides-requires-clause-known : goal.by_held_sides-requires-clause-known
by_held_sides-requires-clause-known c = known_more c.args.bank.now c.by_entries.new.bank (shown c.args.parts.now).now c.by_entries.ensures.extends c.requires.known

pub by_held_sides-requires-clause-closed : goal.by_held_sides-requires-clause-closed
by_held_sides-requires-clause-closed c = closed_kept c.args.bank.now c.by_entries.new.bank (shown c.args.parts.now).now c.by_entries.ensures.extends c.requires.known c.requires.closed

pub returns-in-None-clause-ok : goal.returns-in-None-clause-ok
returns-in-None-clause-ok c =
    let ts = c.args.bank.now in
    let mid = c.by_entries.new.bank in
    next_term c.by_held_sides.result c.by_held_sides.new.bank mid c.in_ok-term.field-0 _ _ _ c.in-None.is c.in_ok-term.ensures.ok (ap (where_held (fresh_of c.args.w)) (aim_kept ts mid (shown c.args.parts.now).now c.args.s c.by_entries.ensures.extends c.requires.known c.requires.sought)) c.by_held_sides.ensures.ok
