use Rattle.std.proofs.Common.{◌≡◌, Option, length, IfOk, sym, ap, subst, arith}
use Rattle.core_expr.specs.Tree.{Tree}
use Rattle.seq_calculus.specs.Schemas.{if_closed}
use Rattle.seq_calculus.proofs.Dispatch.{literals_row, literals_other}
use Rattle.seq_calculus.proofs.instance.for_literals.Goals as goal

pub returns-then-params-ne2 : goal.returns-then-params-ne2
returns-then-params-ne2 c =
    let n : ¬ (length c.args.params.now ≡ 2) = λ e. omega arith in sym (ap if_closed (literals_other c.args.params.now n))

pub returns : goal.returns
returns c =
    let e : length c.args.params.now ≡ 2 = omega arith in
    subst (λ (r : Option Tree). IfOk c.literals.result (λ o. o ≡ if_closed r)) (sym (literals_row c.args.params.now c.index-params-0.result c.index-params-1.result e c.index-params-0.is c.index-params-1.is)) c.literals.ensures
