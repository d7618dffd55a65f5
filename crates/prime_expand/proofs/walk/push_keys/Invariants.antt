use Rattle.std.proofs.Common.{◌≡◌, ◌++◌, List, drop}
use Rattle.plain_syntax.specs.Syntax.{each_key}
use Rattle.prime_expand.specs.declared.both.Both.{Both}
use Rattle.prime_expand.specs.declared.env.Names.{Names}
use Rattle.prime_expand.specs.Walk.{point, finish, keys_from}
use Rattle.prime_expand.proofs.walk.push_keys.Given as goal

abbrev pub invariant-loop-i : goal.invariant-loop-i
invariant-loop-i l =
    (names : Names) (vs : List Both) → finish names l.tasks.items vs
    ≡ finish names l.fn.tasks.items (vs ++ keys_from names (point names l.spot) (each_key (drop l.i l.keys)))
