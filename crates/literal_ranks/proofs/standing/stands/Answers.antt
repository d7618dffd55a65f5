use Rattle.std.proofs.Common.{sym}
use Rattle.branch_state.specs.Parts.{shown}
use Rattle.branch_values.proofs.Reasoning.{stood_at}
use Rattle.literal_ranks.proofs.standing.stands.Goals as goal

pub returns : goal.returns
returns c = sym (stood_at c.args.bank.now (shown c.args.parts.now).now c.args.i c.has.result c.count-count.ensures.distinct c.requires.known c.requires.within c.has.ensures)
