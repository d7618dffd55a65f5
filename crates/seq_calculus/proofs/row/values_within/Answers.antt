use Rattle.seq_calculus.proofs.row.values_within.Goals as goal

pub returns : goal.returns
returns c = rw (c.in_ok-body.ensures, c.in_ok-inside.ensures, c.in_ok-within.ensures, c.in_ok-lift.ensures, c.in_ok-value.ensures) at c.quantified.ensures
