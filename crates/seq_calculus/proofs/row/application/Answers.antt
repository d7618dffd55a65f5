use Rattle.seq_calculus.proofs.row.application.Goals as goal

pub returns : goal.returns
returns c = rw (c.in_ok-pair.ensures, c.in_ok-equal.ensures, c.in_ok-inst.ensures, c.in_ok-applied.ensures, c.in_ok-copy-3.ensures, c.in_ok-function.ensures, c.in_ok-copy-2.ensures, c.in_ok-copy.ensures) at c.binary-3.ensures
