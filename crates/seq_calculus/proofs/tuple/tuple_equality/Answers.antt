use Rattle.std.proofs.Common.{Some, sym, ap, ◌∙◌, arith}
use Rattle.seq_calculus.specs.Schemas.{if_closed}
use Rattle.seq_calculus.proofs.Listed.{slice_rest}
use Rattle.seq_calculus.proofs.Tuples.{tuples_past, tuples_row}
use Rattle.seq_calculus.proofs.tuple.tuple_equality.Goals as goal

pub returns-then-number-params : goal.returns-then-number-params
returns-then-number-params c = sym (tuples_past c.args.number c.args.params.now (omega arith))

pub returns : goal.returns
returns c =
    let e = rw (slice_rest c.args.number c.args.params.now) at c.in_ok-build_tuples.ensures in
    c.if_closed.ensures ∙ ap (λ t. if_closed (Some t)) e ∙ ap if_closed (sym (tuples_row c.args.number c.args.params.now (omega arith)))
