use Rattle.std.proofs.Common.{◌≡◌, false, sym, rules}
use Rattle.seq_calculus.proofs.Listed.{not_from}
use Rattle.seq_calculus.proofs.Fits.{one_open}
use Rattle.seq_calculus.proofs.instance.closed_one.Goals as goal

pub returns-then-not-is_scoped : goal.returns-then-not-is_scoped
returns-then-not-is_scoped c = let q : c.is_scoped.result ≡ false = search rules in sym (one_open c.args.schema c.args.a.now (not_from c.is_scoped.result _ c.is_scoped.ensures q))
