use Rattle.branch_state.specs.Parts.{shown}
use Rattle.tableau_ranks.proofs.KeptLaws.{kept_sized}
use Rattle.tableau_ranks.proofs.rewriting.replace.Goals as goal

pub returns-clause-kept : goal.returns-clause-kept
returns-clause-kept c =
    let q = c.requires in
    let r = c.replace_rank.ensures in
    kept_sized c.args.ranks.now c.replace_rank.new.bank c.replace_rank.new.sizes (shown c.args.parts.now).now c.replace_rank.result r.extends r.distinct q.known r.sizes q.looks
