use Rattle.known_facts.proofs.Growing.{taken_are}
use Rattle.known_facts.proofs.context.Context.leave.Goals as goal

pub returns : goal.returns
returns c = λ i. record { known = taken_are c.args.mark c.args.self.now.known.items c.truncate.new.self.items c.truncate.ensures.items i; defs = c.args.self.now.defs.items; goal = c.args.self.now.goal }
