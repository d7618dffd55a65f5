use Rattle.rule_proofs.proofs.Numbers.{number_same}
use Rattle.rule_proofs.proofs.closing.equal.Goals as goal

pub returns : goal.returns
returns c = number_same c.args.bank.now c.args.a c.args.b c.count.ensures.distinct c.requires.first c.requires.second
