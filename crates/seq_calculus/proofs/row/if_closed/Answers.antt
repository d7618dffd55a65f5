use Rattle.std.proofs.Common.{◌≡◌, true, false, rules}
use Rattle.seq_calculus.proofs.Listed.{not_from, yes_from}
use Rattle.seq_calculus.proofs.Fits.{tested-true, tested-false}
use Rattle.seq_calculus.proofs.row.if_closed.Goals as goal

pub returns-then-is_closed : goal.returns-then-is_closed
returns-then-is_closed c = let q : c.is_closed.result ≡ true = search rules in tested-true c.args.formula (yes_from c.is_closed.result _ c.is_closed.ensures q)

pub returns : goal.returns
returns c = let q : c.is_closed.result ≡ false = search rules in tested-false c.args.formula (not_from c.is_closed.result _ c.is_closed.ensures q)
