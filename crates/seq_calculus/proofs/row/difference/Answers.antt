use Rattle.seq_calculus.proofs.row.difference.Goals as goal

pub returns : goal.returns
returns c = rw (c.in_ok-pair-3.ensures, c.in_ok-meaning.ensures, c.in_ok-pair-2.ensures, c.in_ok-outside.ensures, c.in_ok-pair.ensures) at c.membership.ensures
