use Rattle.seq_calculus.proofs.row.union.Goals as goal

pub returns : goal.returns
returns c = rw (c.in_ok-whole.ensures, c.in_ok-copy.ensures, c.in_ok-meaning.ensures, c.in_ok-body.ensures, c.in_ok-inside.ensures, c.in_ok-element.ensures, c.in_ok-lift.ensures, c.in_ok-bound.ensures) at c.membership.ensures
