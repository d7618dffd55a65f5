use Rattle.seq_calculus.proofs.row.image.Goals as goal

pub returns : goal.returns
returns c = rw (c.in_ok-meaning.ensures, c.in_ok-body.ensures, c.in_ok-inside.ensures, c.in_ok-equal.ensures, c.in_ok-copy-3.ensures, c.in_ok-lift.ensures, c.in_ok-whole.ensures, c.in_ok-copy-2.ensures, c.in_ok-copy.ensures) at c.membership.ensures
