use Rattle.seq_calculus.proofs.row.function_set.Goals as goal

pub returns : goal.returns
returns c = rw (c.in_ok-pair.ensures, c.in_ok-meaning.ensures, c.in_ok-values_within.ensures, c.in_ok-own.ensures) at c.membership.ensures
