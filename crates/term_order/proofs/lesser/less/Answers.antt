use Rattle.std.proofs.Common.{◌∙◌, ap}
use Rattle.core_expr.specs.Terms.{less}
use Rattle.term_bank.specs.Banks.{tree_at}
use Rattle.term_order.proofs.CodeLaws.{less-same_term}
use Rattle.term_order.proofs.lesser.less.Goals as goal

pub returns-then-s-t-clause-ok : goal.returns-then-s-t-clause-ok
returns-then-s-t-clause-ok c =
    less-same_term (tree_at c.args.bank.now c.args.s) ∙ ap (λ i. less (tree_at c.args.bank.now c.args.s) (tree_at c.args.bank.now i)) c.if-s-t.true
