use Rattle.std.proofs.Common.{refl}
use Rattle.prime_expand.specs.Symbols.{infix_heads}
use Rattle.prime_expand.proofs.Heads.{taken}
use Rattle.prime_expand.proofs.symbols.infix_head.Goals as goal

pub returns-clause-takes : goal.returns-clause-takes
returns-clause-takes c = rw c.head_in.ensures (taken 2 infix_heads c.args.sign.now refl)
