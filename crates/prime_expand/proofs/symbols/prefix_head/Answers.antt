use Rattle.std.proofs.Common.{refl}
use Rattle.prime_expand.specs.Symbols.{prefix_heads}
use Rattle.prime_expand.proofs.Heads.{taken}
use Rattle.prime_expand.proofs.symbols.prefix_head.Goals as goal

pub returns-clause-takes : goal.returns-clause-takes
returns-clause-takes c = rw c.head_in.ensures (taken 1 prefix_heads c.args.sign.now refl)
