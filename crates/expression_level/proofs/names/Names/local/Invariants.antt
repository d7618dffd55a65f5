use Rattle.std.proofs.Common.{◌≡◌, ◌≤◌, take, length}
use Rattle.expression_level.specs.Scope.{newest}
use Rattle.expression_level.proofs.names.Names.local.Given as goal

abbrev pub invariant-loop-left : goal.invariant-loop-left
invariant-loop-left l = record {
  same : newest l.self.env.locals l.number ≡ newest (take l.left l.self.env.locals) l.number;
  within : l.left ≤ length l.self.env.locals;
}

abbrev pub decreases-loop-left : goal.decreases-loop-left
decreases-loop-left l = l.left
