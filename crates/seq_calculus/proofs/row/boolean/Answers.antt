use Rattle.seq_calculus.proofs.row.boolean.Goals as goal

pub returns : goal.returns
returns c = rw (c.in_ok-leaf-3.ensures, c.in_ok-meaning.ensures, c.in_ok-no.ensures, c.in_ok-leaf-2.ensures, c.in_ok-yes.ensures, c.in_ok-leaf.ensures) at c.membership.ensures
