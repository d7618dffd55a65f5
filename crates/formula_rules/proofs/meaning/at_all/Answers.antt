use Rattle.std.proofs.Common.{sym}
use Rattle.core_expr.specs.Tree.{in_, imp_, eq_, apply_, all_}
use Rattle.core_expr.specs.Tree.Tree.{bound}
use Rattle.term_bank.specs.Banks.{tree_at}
use Rattle.formula_rules.proofs.Raising.{closed_shift, ok_is}
use Rattle.formula_rules.proofs.meaning.at_all.Goals as goal

pub returns-clause-ok : goal.returns-clause-ok
returns-clause-ok c =
    let g = sym (closed_shift (tree_at c.args.bank.now c.args.g) c.requires.function) in
    let s = sym (closed_shift (tree_at c.args.bank.now c.args.s) c.requires.domain) in
    ok_is c.build.result c.build.new.bank _ _ (λ i. all_ (imp_ (in_ (bound 0) (s i)) (eq_ (apply_ (g i) (bound 0)) (tree_at c.args.bank.now c.args.e)))) c.build.ensures.ok
