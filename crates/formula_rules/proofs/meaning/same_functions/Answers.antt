use Rattle.std.proofs.Common.{sym}
use Rattle.core_expr.specs.Tree.{in_, imp_, eq_, and_, all_}
use Rattle.core_expr.specs.Tree.Tree.{bound}
use Rattle.term_bank.specs.Banks.{tree_at}
use Rattle.formula_rules.proofs.Raising.{closed_shift, ok_is}
use Rattle.formula_rules.proofs.meaning.same_functions.Goals as goal

pub returns-clause-ok : goal.returns-clause-ok
returns-clause-ok c =
    let ts = c.args.bank.now in
    let s = sym (closed_shift (tree_at ts c.args.s) c.requires.closed) in
    ok_is c.build.result c.build.new.bank _ _ (λ i. and_ (eq_ (tree_at ts c.args.s) (tree_at ts c.args.t)) (all_ (imp_ (in_ (bound 0) (s i)) (eq_ (tree_at ts c.args.d) (tree_at ts c.args.e))))) c.build.ensures.ok
