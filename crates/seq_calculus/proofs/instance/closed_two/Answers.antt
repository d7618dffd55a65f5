use Rattle.std.proofs.Common.{◌≡◌, false, sym, rules}
use Rattle.seq_calculus.proofs.Listed.{not_from}
use Rattle.seq_calculus.proofs.Fits.{two_open}
use Rattle.seq_calculus.proofs.instance.closed_two.Goals as goal

pub returns-then-not-are_two_scoped : goal.returns-then-not-are_two_scoped
returns-then-not-are_two_scoped c = let q : c.are_two_scoped.result ≡ false = search rules in sym (two_open c.args.schema c.args.a.now c.args.b.now (not_from c.are_two_scoped.result _ c.are_two_scoped.ensures q))
