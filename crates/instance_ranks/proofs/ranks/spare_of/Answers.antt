use Rattle.branch_state.specs.Parts.{shown}
use Rattle.tableau_search.proofs.RankLaws.{known_more}
use Rattle.instance_terms.specs.Fresh.{fresh_of}
use Rattle.instance_ranks.proofs.PlaceLaws.{spare_made, spare_unmade}
use Rattle.instance_ranks.proofs.ranks.spare_of.Goals as goal

pub new_term-requires-clause-known : goal.new_term-requires-clause-known
new_term-requires-clause-known c = known_more c.args.bank.now c.spare_term.new.bank (shown c.args.parts.now).now c.spare_term.ensures.extends c.requires.known

pub returns-in-Some-clause-ok : goal.returns-in-Some-clause-ok
returns-in-Some-clause-ok c =
    spare_made c.args.bank.now c.spare_term.new.bank c.new_term.new.bank (shown c.args.parts.now).now (fresh_of c.args.w) c.args.place c.in_ok-spare.spare c.in-Some.term c.in_ok-term.field-0 c.spare_term.ensures.extends c.new_term.ensures.extends c.requires.known c.requires.live c.in_ok-spare.ensures.ok c.if-place-ne0.false c.in-Some.is c.in_ok-term.ensures.ok

pub returns-in-None-clause-ok : goal.returns-in-None-clause-ok
returns-in-None-clause-ok c =
    spare_unmade c.args.bank.now c.spare_term.new.bank c.new_term.new.bank (shown c.args.parts.now).now (fresh_of c.args.w) c.args.place c.in_ok-spare.spare c.in_ok-term.field-0 c.spare_term.ensures.extends c.requires.known c.requires.live c.in_ok-spare.ensures.ok c.in-None.is c.in_ok-term.ensures.ok
