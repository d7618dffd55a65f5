use Rattle.std.proofs.Common.{◌≡◌, Option, length, IfOk, sym, ap, subst, arith}
use Rattle.core_expr.specs.Tree.{Tree}
use Rattle.seq_calculus.specs.Schemas.{if_closed}
use Rattle.seq_calculus.specs.Families.{formula_of_one}
use Rattle.seq_calculus.proofs.Dispatch.{one_row, one_other}
use Rattle.seq_calculus.proofs.instance.for_one.Goals as goal

pub returns-then-params-ne1 : goal.returns-then-params-ne1
returns-then-params-ne1 c =
    let n : ¬ (length c.args.params.now ≡ 1) = λ e. omega arith in sym (ap if_closed (one_other (formula_of_one c.args.schema) c.args.params.now n))

pub returns : goal.returns
returns c =
    let e : length c.args.params.now ≡ 1 = omega arith in
    subst (λ (r : Option Tree). IfOk c.closed_one.result (λ o. o ≡ if_closed r)) (sym (one_row (formula_of_one c.args.schema) c.args.params.now c.index-params-0.result e c.index-params-0.is)) c.closed_one.ensures
