use Rattle.seq_calculus.proofs.row.except.Goals as goal

pub returns : goal.returns
returns c = rw (c.in_ok-function.ensures, c.in_ok-changed_value.ensures, c.in_ok-domain.ensures, c.in_ok-copy-3.ensures, c.in_ok-whole-2.ensures, c.in_ok-copy-2.ensures, c.in_ok-copy.ensures, c.in_ok-whole.ensures) at c.binary.ensures
