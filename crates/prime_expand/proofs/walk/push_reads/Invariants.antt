use Rattle.std.proofs.Common.{◌≡◌, ◌++◌, List, map, drop}
use Rattle.plain_syntax.specs.Syntax.{term_of, terms_of}
use Rattle.prime_expand.specs.declared.both.Both.{Both}
use Rattle.prime_expand.specs.declared.env.Names.{Names}
use Rattle.prime_expand.specs.Walk.{point, finish, cores_from}
use Rattle.prime_expand.proofs.walk.push_reads.Given as goal

abbrev pub invariant-loop-i : goal.invariant-loop-i
invariant-loop-i l =
    (names : Names) (vs : List Both) → finish names l.tasks.items vs
    ≡ finish names l.fn.tasks.items (vs ++ cores_from names (point names l.spot) (terms_of (map term_of (drop l.i l.nodes))))
