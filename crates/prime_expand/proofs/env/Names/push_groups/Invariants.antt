use Rattle.std.proofs.Common.{◌≡◌, ◌∷◌, ◌++◌, [], List, drop}
use Rattle.plain_syntax.specs.Syntax.{each_group}
use Rattle.prime_expand.specs.declared.both.Both.{Both}
use Rattle.prime_expand.specs.Walk.{quantified_by, point, placed, finish, bound_groups}
use Rattle.prime_expand.proofs.env.Names.push_groups.Given as goal

abbrev pub invariant-loop-group : goal.invariant-loop-group
invariant-loop-group l =
    (vs : List Both) (p : Both)
    → finish l.self l.tasks.items (vs ++ bound_groups l.self (placed l.depth (point l.self l.spot)) (quantified_by l.binder) (each_group (drop l.group-index l.groups)) p ∷ [])
    ≡ finish l.self l.fn.tasks.items (vs ++ bound_groups l.self (point l.self l.spot) (quantified_by l.binder) (each_group l.groups) p ∷ [])
