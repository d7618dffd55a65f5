use Rattle.seq_calculus.proofs.row.choice.Goals as goal

pub returns : goal.returns
returns c = rw (c.in_ok-exists.ensures, c.in_ok-copy-2.ensures, c.in_ok-instance.ensures, c.in_ok-chosen.ensures, c.in_ok-copy.ensures) at c.binary.ensures
