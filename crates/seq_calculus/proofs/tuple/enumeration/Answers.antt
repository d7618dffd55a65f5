use Rattle.std.proofs.Common.{Some, sym, ap, ◌∙◌, rules, arith}
use Rattle.seq_calculus.specs.Schemas.{if_closed}
use Rattle.seq_calculus.proofs.Listed.{slice_rest}
use Rattle.seq_calculus.proofs.Tuples.{enumeration_row, enumeration_none}
use Rattle.seq_calculus.proofs.tuple.enumeration.Goals as goal

pub returns-then-is_empty : goal.returns-then-is_empty
returns-then-is_empty c = sym (enumeration_none c.args.params.now (first_of (omega arith, search rules)))

pub returns : goal.returns
returns c =
    let e = rw (slice_rest 1 c.args.params.now) at c.in_ok-build_enumeration.ensures in
    c.if_closed.ensures ∙ ap (λ t. if_closed (Some t)) e ∙ ap if_closed (sym (enumeration_row c.args.params.now c.index-params-0.result (first_of (omega arith, search rules)) c.index-params-0.is))
