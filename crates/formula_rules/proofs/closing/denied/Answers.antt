use Rattle.formula_rules.proofs.Same.{denied_same}
use Rattle.formula_rules.proofs.closing.denied.Goals as goal

pub returns-in-Not : goal.returns-in-Not
returns-in-Not c = λ g l. denied_same c.args.bank.now c.args.f c.in-Not.a g c.count-count.ensures.distinct c.in-Not.ensures.within.0 l c.in-Not.ensures.form
