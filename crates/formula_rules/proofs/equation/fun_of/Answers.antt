use Rattle.std.proofs.Common.{sym, ◌∙◌}
use Rattle.term_bank.specs.Banks.{tree_at}
use Rattle.search_definition.specs.Equations.{fun_of}
use Rattle.formula_rules.specs.Answers.{HasTerm}
use Rattle.formula_rules.proofs.Same.{fun_right, fun_left}
use Rattle.formula_rules.proofs.equation.fun_of.Goals as goal

pub returns-then-is_fun : goal.returns-then-is_fun
returns-then-is_fun c =
    let ts = c.args.bank.now in
    coe 0 1 (i. HasTerm ts (sym c.when_same.ensures i) (fun_of (tree_at ts c.args.g) (sym c.in-Eq.ensures.form i)))
    (fun_right ts c.args.g c.in-Eq.a c.in-Eq.b c.count-count.ensures.distinct c.requires.0 c.in-Eq.ensures.within.0 c.in-Eq.ensures.within.1.0 (sym c.is_fun.ensures ∙ c.if-is_fun.true))

pub returns-then-is_fun-2 : goal.returns-then-is_fun-2
returns-then-is_fun-2 c =
    let ts = c.args.bank.now in
    coe 0 1 (i. HasTerm ts (sym c.when_same-then-is_fun-2.ensures i) (fun_of (tree_at ts c.args.g) (sym c.in-Eq.ensures.form i)))
    (fun_left ts c.args.g c.in-Eq.a c.in-Eq.b c.count-count.ensures.distinct c.requires.0 c.in-Eq.ensures.within.0 c.in-Eq.ensures.within.1.0 (sym c.is_fun.ensures ∙ c.if-is_fun.false) (sym c.is_fun-else-is_fun.ensures ∙ c.if-is_fun-2.true))
