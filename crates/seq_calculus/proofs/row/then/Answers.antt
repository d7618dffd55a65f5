use Rattle.seq_calculus.proofs.row.then.Goals as goal

pub returns : goal.returns
returns c = rw (c.in_ok-copy.ensures, c.in_ok-equal.ensures, c.in_ok-conditional.ensures) at c.binary.ensures
