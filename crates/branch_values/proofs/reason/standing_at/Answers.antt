use Rattle.std.proofs.Common.{refl, ◌∙◌}
use Rattle.branch_state.specs.Parts.{shown}
use Rattle.branch_values.proofs.Reasoning.{stood_at}
use Rattle.branch_values.proofs.reason.standing_at.Goals as goal

pub returns-then-has : goal.returns-then-has
returns-then-has c = (
  stood_at c.args.bank.now (shown c.args.parts.now).now c.args.i c.has.result c.count-count.ensures.distinct c.requires.known c.requires.within c.has.ensures ∙ c.if-has.true,
  record { within = c.requires.within; tree = refl },
)

pub returns-else-has : goal.returns-else-has
returns-else-has c = stood_at c.args.bank.now (shown c.args.parts.now).now c.args.i c.has.result c.count-count.ensures.distinct c.requires.known c.requires.within c.has.ensures ∙ c.if-has.false
