use Rattle.seq_calculus.proofs.row.subset.Goals as goal

pub returns : goal.returns
returns c = rw (c.in_ok-pair.ensures, c.in_ok-meaning.ensures, c.in_ok-body.ensures, c.in_ok-inside-2.ensures, c.in_ok-inside.ensures) at c.binary-2.ensures
