use Rattle.std.proofs.Common.{sym}
use Rattle.core_expr.specs.Tree.{in_, imp_, all_}
use Rattle.core_expr.specs.Tree.Tree.{bound}
use Rattle.term_bank.specs.Banks.{tree_at}
use Rattle.formula_rules.proofs.Raising.{closed_shift, ok_is}
use Rattle.formula_rules.proofs.meaning.all_within.Goals as goal

pub returns-clause-ok : goal.returns-clause-ok
returns-clause-ok c =
    let a = sym (closed_shift (tree_at c.args.bank.now c.args.a) c.requires.left) in
    let b = sym (closed_shift (tree_at c.args.bank.now c.args.b) c.requires.right) in
    ok_is c.build.result c.build.new.bank _ _ (λ i. all_ (imp_ (in_ (bound 0) (a i)) (in_ (bound 0) (b i)))) c.build.ensures.ok
