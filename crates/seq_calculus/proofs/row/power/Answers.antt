use Rattle.seq_calculus.proofs.row.power.Goals as goal

pub returns : goal.returns
returns c = rw (c.in_ok-pair.ensures, c.in_ok-subsets.ensures, c.in_ok-copy.ensures) at c.membership.ensures
