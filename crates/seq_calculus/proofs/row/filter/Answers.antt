use Rattle.seq_calculus.proofs.row.filter.Goals as goal

pub returns : goal.returns
returns c = rw (c.in_ok-meaning.ensures, c.in_ok-inst.ensures, c.in_ok-left.ensures, c.in_ok-whole.ensures, c.in_ok-copy-2.ensures, c.in_ok-copy.ensures) at c.membership.ensures
