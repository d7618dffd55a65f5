use Rattle.std.proofs.Common.{◌≡◌, ◌∷◌, ◌++◌, [], List, map, drop}
use Rattle.plain_syntax.specs.Syntax.{term_of, keys_of, updates_of}
use Rattle.prime_expand.specs.declared.both.Both.{Both}
use Rattle.prime_expand.specs.Walk.{point, finish, updates_from}
use Rattle.prime_expand.proofs.env.Names.push_updates.Given as goal

abbrev pub invariant-loop-i : goal.invariant-loop-i
invariant-loop-i l =
    (vs : List Both) (r : Both) → finish l.self l.tasks.items (vs ++ r ∷ [])
    ≡ finish l.self l.fn.tasks.items (vs ++ updates_from l.self (point l.self l.spot) r (updates_of (map keys_of (drop l.i l.paths)) (map term_of (drop l.i l.news))) ∷ [])
