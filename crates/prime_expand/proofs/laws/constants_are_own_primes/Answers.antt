use Rattle.prime_expand.proofs.CoreFine.{constant_is_its_prime}
use Rattle.prime_expand.proofs.laws.constants_are_own_primes.Goals as goal

pub returns : goal.returns
returns c = constant_is_its_prime
