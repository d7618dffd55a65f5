use Rattle.std.proofs.Common.{◌∙◌, sym}
use Rattle.branch_state.specs.Parts.{shown}
use Rattle.rank_rules.proofs.HasLaws.{has_stands}
use Rattle.rank_rules.proofs.standing.stands.Goals as goal

pub returns : goal.returns
returns c = c.has.ensures ∙ sym (has_stands c.args.bank.now (shown c.args.parts.now).now c.args.f c.count-count.ensures.distinct c.requires.known c.requires.within)
