use Rattle.std.proofs.Common.{◌∙◌, sym}
use Rattle.obligation.proofs.Absent.{absent}
use Rattle.obligation.proofs.unfolding.put_in.Goals as goal

pub returns-then-not-mentions : goal.returns-then-not-mentions
returns-then-not-mentions c = sym (absent c.args.def.now.symbol c.args.def.now.body 0 c.args.e (sym c.mentions.ensures ∙ c.if-not-mentions.true))
