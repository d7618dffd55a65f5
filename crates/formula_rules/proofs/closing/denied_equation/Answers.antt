use Rattle.term_bank.specs.Banks.{tree_at}
use Rattle.formula_rules.proofs.Same.{mirror_made}
use Rattle.formula_rules.proofs.closing.denied_equation.Goals as goal

pub returns-clause-ok : goal.returns-clause-ok
returns-clause-ok c = mirror_made c.build.new.bank c.build.result (tree_at c.args.bank.now c.args.s) (tree_at c.args.bank.now c.args.t) c.build.ensures.distinct c.build.ensures.ok
