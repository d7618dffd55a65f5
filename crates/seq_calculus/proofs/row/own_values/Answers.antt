use Rattle.seq_calculus.proofs.row.own_values.Goals as goal

pub returns : goal.returns
returns c = rw (c.in_ok-copy-2.ensures, c.in_ok-function.ensures, c.in_ok-value.ensures, c.in_ok-copy.ensures) at c.binary.ensures
