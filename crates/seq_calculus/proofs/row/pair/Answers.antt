use Rattle.seq_calculus.proofs.row.pair.Goals as goal

pub returns : goal.returns
returns c = rw (c.in_ok-copy-2.ensures, c.in_ok-copy.ensures) at c.binary.ensures
