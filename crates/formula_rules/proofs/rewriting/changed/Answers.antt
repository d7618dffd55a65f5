use Rattle.std.proofs.Common.{sym}
use Rattle.core_expr.specs.Tree.{fun_, dom_, if_, eq_, apply_}
use Rattle.core_expr.specs.Tree.Tree.{bound}
use Rattle.term_bank.specs.Banks.{tree_at}
use Rattle.formula_rules.proofs.Raising.{closed_shift, ok_is}
use Rattle.formula_rules.proofs.rewriting.changed.Goals as goal

pub returns-clause-ok : goal.returns-clause-ok
returns-clause-ok c =
    let ts = c.args.bank.now in
    let f = sym (closed_shift (tree_at ts c.args.f) c.requires.function) in
    let a = sym (closed_shift (tree_at ts c.args.a) c.requires.place) in
    let b = sym (closed_shift (tree_at ts c.args.b) c.requires.value) in
    ok_is c.build.result c.build.new.bank _ _ (λ i. fun_ (dom_ (tree_at ts c.args.f)) (if_ (eq_ (bound 0) (a i)) (b i) (apply_ (f i) (bound 0)))) c.build.ensures.ok
