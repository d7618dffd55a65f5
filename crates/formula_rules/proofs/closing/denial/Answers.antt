use Rattle.std.proofs.Common.{◌∙◌}
use Rattle.core_expr.specs.Tree.{not_}
use Rattle.term_bank.specs.Banks.{tree_at}
use Rattle.formula_rules.proofs.Same.{sought, not_of_same}
use Rattle.formula_rules.proofs.closing.denial.Goals as goal

pub returns : goal.returns
returns c = λ g l. not_of_same (tree_at c.args.bank.now g) (tree_at c.args.bank.now c.args.f) ∙ sought c.args.bank.now c.seek.result (not_ (tree_at c.args.bank.now c.args.f)) c.count-count.ensures.distinct c.seek.ensures.some c.seek.ensures.none g l
