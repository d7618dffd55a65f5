use Rattle.core_expr.specs.Tree.{in_, eq_, and_, ex_}
use Rattle.core_expr.specs.Tree.Tree.{bound}
use Rattle.term_shapes.proofs.Extending.{tree-extend}
use Rattle.formula_rules.proofs.Raising.{kept_up, ok_is}
use Rattle.formula_rules.proofs.meaning.some_equals.Goals as goal

pub returns-clause-ok : goal.returns-clause-ok
returns-clause-ok c =
    let a = kept_up c.args.bank.now c.raised.new.bank c.args.a c.raised.ensures.extends c.requires.below.1.0 c.requires.closed in
    let e = tree-extend c.args.bank.now c.raised.new.bank c.args.e c.raised.ensures.extends c.requires.below.1.1.0 in
    ok_is c.build.result c.build.new.bank _ _ (λ i. ex_ (and_ (in_ (bound 0) (a i)) (eq_ (c.in_ok-up.ensures.ok.tree i) (e i)))) c.build.ensures.ok
