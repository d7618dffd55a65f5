use Rattle.seq_calculus.proofs.row.conditional.Goals as goal

pub returns : goal.returns
returns c = rw (c.in_ok-copy-2.ensures, c.in_ok-copy.ensures, c.in_ok-whole.ensures) at c.ternary.ensures
