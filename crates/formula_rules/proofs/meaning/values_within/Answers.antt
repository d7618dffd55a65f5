use Rattle.core_expr.specs.Tree.{in_, imp_, apply_, all_}
use Rattle.core_expr.specs.Tree.Tree.{bound}
use Rattle.formula_rules.proofs.Raising.{kept_up, ok_is}
use Rattle.formula_rules.proofs.meaning.values_within.Goals as goal

pub returns-clause-ok : goal.returns-clause-ok
returns-clause-ok c =
    let s = kept_up c.args.bank.now c.raised.new.bank c.args.s c.raised.ensures.extends c.requires.below.1.0 c.requires.domain in
    let t = kept_up c.args.bank.now c.raised.new.bank c.args.t c.raised.ensures.extends c.requires.below.1.1.0 c.requires.range in
    ok_is c.build.result c.build.new.bank _ _ (λ i. all_ (imp_ (in_ (bound 0) (s i)) (in_ (apply_ (c.in_ok-up.ensures.ok.tree i) (bound 0)) (t i)))) c.build.ensures.ok
