use Rattle.seq_calculus.proofs.row.membership.Goals as goal

pub returns : goal.returns
returns c = rw (c.in_ok-left.ensures, c.in_ok-copy.ensures) at c.binary-2.ensures
