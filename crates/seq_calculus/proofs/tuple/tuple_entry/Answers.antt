use Rattle.std.proofs.Common.{Some, sym, ap, ◌∙◌, arith}
use Rattle.seq_calculus.specs.Schemas.{if_closed}
use Rattle.seq_calculus.proofs.Tuples.{entry_past, entry_row}
use Rattle.seq_calculus.proofs.tuple.tuple_entry.Goals as goal

pub returns-then-number-params : goal.returns-then-number-params
returns-then-number-params c = sym (entry_past c.args.number c.args.params.now (omega arith))

pub returns : goal.returns
returns c =
    c.if_closed.ensures ∙ ap (λ t. if_closed (Some t)) c.in_ok-build_entry.ensures
    ∙ ap if_closed (sym (entry_row c.args.number c.args.params.now c.index-params-number.result c.if-number-eq0.false (omega arith) c.index-params-number.is))
