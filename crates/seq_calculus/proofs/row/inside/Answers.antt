use Rattle.seq_calculus.proofs.row.inside.Goals as goal

pub returns : goal.returns
returns c = rw (c.in_ok-lift.ensures, c.in_ok-bound.ensures) at c.binary.ensures
