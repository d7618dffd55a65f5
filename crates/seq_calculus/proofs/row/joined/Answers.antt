use Rattle.seq_calculus.proofs.row.joined.Goals as goal

pub returns : goal.returns
returns c = rw (c.in_ok-pair-2.ensures, c.in_ok-meaning.ensures, c.in_ok-pair.ensures, c.in_ok-left.ensures) at c.membership.ensures
