use Rattle.std.proofs.Common.{ap, ◌∙◌}
use Rattle.core_expr.specs.Tree.{not_, eq_}
use Rattle.term_bank.specs.Banks.{tree_at}
use Rattle.search_definition.specs.Branches.{is_mirror_not}
use Rattle.formula_rules.proofs.Same.{sought, unmirror_same}
use Rattle.formula_rules.proofs.closing.equation_mirror.Goals as goal

pub returns-in-Eq : goal.returns-in-Eq
returns-in-Eq c = λ g l.
    let ts = c.args.bank.now in
    let u = tree_at ts c.in-Eq.u in
    let v = tree_at ts c.in-Eq.v in
    ap (λ q. is_mirror_not (tree_at ts g) (not_ q)) c.in-Eq.ensures.form ∙ unmirror_same u v (tree_at ts g) ∙ sought ts c.seek.result (eq_ v u) c.count-count.ensures.distinct c.seek.ensures.some c.seek.ensures.none g l
