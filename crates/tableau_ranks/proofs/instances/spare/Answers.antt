use Rattle.branch_state.specs.Parts.{shown}
use Rattle.tableau_ranks.proofs.KeptLaws.{kept_only}
use Rattle.tableau_ranks.proofs.instances.spare.Goals as goal

pub returns-clause-kept : goal.returns-clause-kept
returns-clause-kept c =
    let q = c.requires in
    let r = c.spare_rank.ensures in
    kept_only c.args.ranks.now c.spare_rank.new.bank (shown c.args.parts.now).now c.spare_rank.result r.extends r.distinct q.known q.sized q.looks
