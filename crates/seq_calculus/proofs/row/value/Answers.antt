use Rattle.seq_calculus.proofs.row.value.Goals as goal

pub returns : goal.returns
returns c = rw (c.in_ok-bound.ensures, c.in_ok-lift.ensures) at c.binary.ensures
