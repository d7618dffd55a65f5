use Rattle.seq_calculus.proofs.row.changed_value.Goals as goal

pub returns : goal.returns
returns c = rw (c.in_ok-value.ensures, c.in_ok-lift-2.ensures, c.in_ok-test.ensures, c.in_ok-lift.ensures, c.in_ok-bound.ensures) at c.ternary.ensures
