use Rattle.std.proofs.Common.{refl}
use Rattle.prime_expand.specs.Symbols.{denied_heads}
use Rattle.prime_expand.proofs.Heads.{taken}
use Rattle.prime_expand.proofs.symbols.denied_head.Goals as goal

pub returns-clause-takes : goal.returns-clause-takes
returns-clause-takes c = rw c.head_in.ensures (taken 2 denied_heads c.args.sign.now refl)
