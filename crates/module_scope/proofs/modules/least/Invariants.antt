use Rattle.std.proofs.Common.{◌≡◌, None, fold}
use Rattle.module_scope.specs.Resolution.{sooner}
use Rattle.module_scope.proofs.modules.least.Given as goal

abbrev pub invariant-loop-fault : goal.invariant-loop-fault
invariant-loop-fault l = l.least ≡ fold sooner None l.yielded
