use Rattle.std.proofs.Common.{◌≡◌, false, sym, rules}
use Rattle.seq_calculus.proofs.Listed.{not_from}
use Rattle.seq_calculus.proofs.Fits.{three_open}
use Rattle.seq_calculus.proofs.instance.closed_three.Goals as goal

pub returns-then-not-are_three_scoped : goal.returns-then-not-are_three_scoped
returns-then-not-are_three_scoped c = let q : c.are_three_scoped.result ≡ false = search rules in sym (three_open c.args.schema c.args.a.now c.args.b.now c.args.c.now (not_from c.are_three_scoped.result _ c.are_three_scoped.ensures q))
