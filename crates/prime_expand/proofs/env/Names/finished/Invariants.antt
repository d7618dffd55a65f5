use Rattle.std.proofs.Common.{◌≡◌, []}
use Rattle.prime_expand.specs.Walk.{finish}
use Rattle.prime_expand.proofs.env.Names.finished.Given as goal

abbrev pub invariant-loop : goal.invariant-loop
invariant-loop l = finish l.self l.tasks.items l.cores.items ≡ finish l.self l.fn.tasks.items []
