use Rattle.std.proofs.Common.{sym}
use Rattle.core_expr.specs.Tree.{apply_}
use Rattle.core_expr.specs.Tree.Tree.{bound}
use Rattle.term_bank.specs.Banks.{tree_at}
use Rattle.formula_rules.proofs.Raising.{closed_shift, ok_is}
use Rattle.rank_rules.proofs.derivation.own_value.Goals as goal

pub returns-clause-ok : goal.returns-clause-ok
returns-clause-ok c =
    let g = sym (closed_shift (tree_at c.args.bank.now c.args.g) c.requires.closed) in ok_is c.build.result c.build.new.bank _ _ (λ i. apply_ (g i) (bound 0)) c.build.ensures.ok
