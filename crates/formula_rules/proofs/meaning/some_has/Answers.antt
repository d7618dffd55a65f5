use Rattle.core_expr.specs.Tree.{in_, and_, ex_}
use Rattle.core_expr.specs.Tree.Tree.{bound}
use Rattle.formula_rules.proofs.Raising.{kept_up, ok_is}
use Rattle.formula_rules.proofs.meaning.some_has.Goals as goal

pub returns-clause-ok : goal.returns-clause-ok
returns-clause-ok c =
    let a = kept_up c.args.bank.now c.raised.new.bank c.args.a c.raised.ensures.extends c.requires.below.1.0 c.requires.closed in
    ok_is c.build.result c.build.new.bank _ _ (λ i. ex_ (and_ (in_ (bound 0) (a i)) (in_ (c.in_ok-up.ensures.ok.tree i) (bound 0)))) c.build.ensures.ok
