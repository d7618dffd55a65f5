use Rattle.std.proofs.Common.{refl}
use Rattle.prime_expand.specs.Symbols.{values}
use Rattle.prime_expand.proofs.Heads.{taken}
use Rattle.prime_expand.proofs.symbols.value.Goals as goal

pub returns-clause-takes : goal.returns-clause-takes
returns-clause-takes c = rw c.head_in.ensures (taken 0 values c.args.word.now refl)
