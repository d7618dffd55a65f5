use Rattle.std.proofs.Common.{◌≡◌, length, sym, subst, refl, rules}
use Rattle.std.proofs.lemmas.Result.{IfOk-weaker}
use Rattle.core_expr.specs.Tree.{eq_, tuple_}
use Rattle.core_expr.specs.Heads.{parts_of, subtrees}
use Rattle.term_bank.specs.Banks.{tree_at}
use Rattle.search_definition.specs.Plain.{left_side}
use Rattle.rule_proofs.specs.Lefts.{IsLeft, AreUnder}
use Rattle.rule_proofs.proofs.Lefts.{tuples_left, both_below}
use Rattle.rule_proofs.proofs.left.equation.Goals as goal

pub returns-in-Tuple-Tuple-clause-is : goal.returns-in-Tuple-Tuple-clause-is
returns-in-Tuple-Tuple-clause-is c =
    let ts = c.args.bank.now in
    let ex : tree_at ts c.args.a ≡ tuple_ (parts_of (subtrees (tree_at ts c.args.a))) = search rules in
    let ey : tree_at ts c.args.b ≡ tuple_ (parts_of (subtrees (tree_at ts c.args.b))) = search rules in
    IfOk-weaker c.left_with.result _ _
    (λ o e. subst (λ x. IsLeft ts x (left_side (eq_ (tree_at ts c.args.a) (tree_at ts c.args.b)))) (sym e)
    (tuples_left ts (tree_at ts c.args.a) (tree_at ts c.args.b) c.parts_at-front.result.now c.parts_at.result.now (length c.parts_at-front.result.now) ex ey c.parts_at-front.ensures.trees c.parts_at.ensures.trees refl))
    c.left_with.ensures

pub returns-in-Tuple-Tuple-clause-under : goal.returns-in-Tuple-Tuple-clause-under
returns-in-Tuple-Tuple-clause-under c =
    let n = length c.args.bank.now in
    IfOk-weaker c.left_with.result _ _
    (λ o e. subst (AreUnder n) (sym e) (both_below n c.parts_at-front.result.now c.parts_at.result.now c.parts_at-front.ensures.within c.parts_at.ensures.within))
    c.left_with.ensures
