use Rattle.std.proofs.Common.{◌≡◌, false, sym, rules}
use Rattle.seq_calculus.proofs.Listed.{not_from}
use Rattle.seq_calculus.proofs.Fits.{functions_open}
use Rattle.seq_calculus.proofs.instance.closed_functions.Goals as goal

pub returns-then-not-are_four_scoped : goal.returns-then-not-are_four_scoped
returns-then-not-are_four_scoped c = let q : c.are_four_scoped.result ≡ false = search rules in sym (functions_open c.args.s.now c.args.d.now c.args.t.now c.args.e.now (not_from c.are_four_scoped.result _ c.are_four_scoped.ensures q))
