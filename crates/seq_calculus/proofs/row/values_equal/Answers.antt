use Rattle.seq_calculus.proofs.row.values_equal.Goals as goal

pub returns : goal.returns
returns c = rw (c.in_ok-body.ensures, c.in_ok-inside.ensures, c.in_ok-equal.ensures) at c.quantified.ensures
