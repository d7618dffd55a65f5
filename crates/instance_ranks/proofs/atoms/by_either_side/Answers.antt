use Rattle.branch_state.specs.Parts.{shown}
use Rattle.tableau_search.proofs.RankLaws.{known_more}
use Rattle.tableau_search.proofs.ClosedLaws.{closed_kept}
use Rattle.instance_terms.specs.Fresh.{fresh_of}
use Rattle.instance_ranks.proofs.KeepLaws.{next_term}
use Rattle.instance_ranks.proofs.AtomLaws.{side_stays}
use Rattle.instance_ranks.proofs.atoms.by_either_side.Goals as goal

pub by_side-requires-in-None-clause-known : goal.by_side-requires-in-None-clause-known
by_side-requires-in-None-clause-known c = known_more c.args.bank.now c.by_side.new.bank (shown c.args.parts.now).now c.by_side.ensures.extends c.requires.known

pub by_side-requires-in-None-clause-closed : goal.by_side-requires-in-None-clause-closed
by_side-requires-in-None-clause-closed c = closed_kept c.args.bank.now c.by_side.new.bank (shown c.args.parts.now).now c.by_side.ensures.extends c.requires.known c.requires.closed

pub returns-in-None-clause-ok : goal.returns-in-None-clause-ok
returns-in-None-clause-ok c =
    let ts = c.args.bank.now in
    let mid = c.by_side.new.bank in
    next_term c.by_side-in-None.result c.by_side-in-None.new.bank mid c.in_ok-term.field-0 _ _ _ c.in-None.is c.in_ok-term.ensures.ok (side_stays ts mid (shown c.args.parts.now).now (fresh_of c.args.w) c.args.s c.args.r c.by_side.ensures.extends c.requires.known c.requires.sought c.requires.right) c.by_side-in-None.ensures.ok
