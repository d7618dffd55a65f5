use Rattle.std.proofs.Common.{◌≡◌, Option, length, IfOk, sym, ap, subst, arith}
use Rattle.core_expr.specs.Tree.{Tree}
use Rattle.seq_calculus.specs.Schemas.{if_closed}
use Rattle.seq_calculus.specs.Families.{formula_of_three}
use Rattle.seq_calculus.proofs.Dispatch.{three_row, three_other}
use Rattle.seq_calculus.proofs.instance.for_three.Goals as goal

pub returns-then-params-ne3 : goal.returns-then-params-ne3
returns-then-params-ne3 c =
    let n : ¬ (length c.args.params.now ≡ 3) = λ e. omega arith in sym (ap if_closed (three_other (formula_of_three c.args.schema) c.args.params.now n))

pub returns : goal.returns
returns c =
    let e : length c.args.params.now ≡ 3 = omega arith in
    subst (λ (r : Option Tree). IfOk c.closed_three.result (λ o. o ≡ if_closed r)) (sym (three_row (formula_of_three c.args.schema) c.args.params.now c.index-params-0.result c.index-params-1.result c.index-params-2.result e c.index-params-0.is c.index-params-1.is c.index-params-2.is)) c.closed_three.ensures
