use Rattle.std.proofs.Common.{◌≡◌, Option, length, IfOk, sym, ap, subst, arith}
use Rattle.core_expr.specs.Tree.{Tree}
use Rattle.seq_calculus.specs.Schemas.{if_closed, about_functions}
use Rattle.seq_calculus.proofs.Dispatch.{four_row, four_other}
use Rattle.seq_calculus.proofs.instance.for_functions.Goals as goal

pub returns-then-params-ne4 : goal.returns-then-params-ne4
returns-then-params-ne4 c =
    let n : ¬ (length c.args.params.now ≡ 4) = λ e. omega arith in sym (ap if_closed (four_other about_functions c.args.params.now n))

pub returns : goal.returns
returns c =
    let e : length c.args.params.now ≡ 4 = omega arith in
    subst (λ (r : Option Tree). IfOk c.closed_functions.result (λ o. o ≡ if_closed r)) (sym (four_row about_functions c.args.params.now c.index-params-0.result c.index-params-1.result c.index-params-2.result c.index-params-3.result e c.index-params-0.is c.index-params-1.is c.index-params-2.is c.index-params-3.is)) c.closed_functions.ensures
