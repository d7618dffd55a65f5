use Rattle.std.proofs.Common.{◌≡◌, ◌∷◌, ◌++◌, [], List}
use Rattle.tla_ast.specs.declared.tree.Group.{out-Group}
use Rattle.prime_expand.specs.declared.both.Both.{Both}
use Rattle.prime_expand.specs.Walk.{quantified_by, point, placed, finish, bound_names}
use Rattle.prime_expand.proofs.env.Names.push_group.Given as goal

abbrev pub invariant-loop-i : goal.invariant-loop-i
invariant-loop-i l =
    (vs : List Both) (p : Both) → finish l.self l.tasks.items (vs ++ p ∷ [])
    ≡ finish l.self l.fn.tasks.items (vs ++ bound_names l.self (placed l.depth (point l.self l.spot)) (quantified_by l.binder) (out-Group l.group).domain l.i p ∷ [])
