use Rattle.std.proofs.Common.{◌≡◌, [], take}
use Rattle.core_expr.specs.Tree.Tree.{node}
use Rattle.core_expr.specs.Tree.Parts.{end, part}
use Rattle.seq_calculus.specs.Schemas.{join_from}
use Rattle.seq_calculus.proofs.tuple.join_after.Given as goal

abbrev pub invariant-loop-item : goal.invariant-loop-item
invariant-loop-item l = l.joined ≡ join_from (λ a b. node l.connective [] (part a (part b end))) l.first (take l.item-index l.rest)
