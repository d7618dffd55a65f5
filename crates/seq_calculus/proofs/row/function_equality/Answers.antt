use Rattle.seq_calculus.proofs.row.function_equality.Goals as goal

pub returns : goal.returns
returns c = rw (c.in_ok-meaning.ensures, c.in_ok-pair.ensures, c.in_ok-values.ensures, c.in_ok-whole.ensures, c.in_ok-right.ensures, c.in_ok-copy-4.ensures, c.in_ok-copy-3.ensures, c.in_ok-left.ensures, c.in_ok-copy-2.ensures, c.in_ok-copy.ensures) at c.binary-3.ensures
