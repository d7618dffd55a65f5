use Rattle.core_expr.specs.Heads.{subtrees}
use Rattle.term_bank.specs.Banks.{tree_at}
use Rattle.formula_rules.proofs.Giving.{tuples_left}
use Rattle.formula_rules.proofs.left.of_tuple.Goals as goal

pub returns-in_ok-same_tuples-in-Tuple-clause-ok : goal.returns-in_ok-same_tuples-in-Tuple-clause-ok
returns-in_ok-same_tuples-in-Tuple-clause-ok c =
    let a = tree_at c.args.bank.now c.args.a in
    let b = tree_at c.args.bank.now c.args.b in
    tuples_left c.same_tuples.new.bank c.in_ok-same_tuples-in-Tuple.field-0 a b (subtrees a) (subtrees b) c.requires.tuple c.in-Tuple.ensures.form c.in_ok-same_tuples-in-Tuple.ensures.ok
