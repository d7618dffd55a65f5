use Rattle.std.proofs.Common.{◌≡◌, ◌++◌}
use Rattle.demo_maker.specs.Demo.{constants}
use Rattle.demo_maker.proofs.parts.push_constants.Given as goal

abbrev pub invariant-loop-number : goal.invariant-loop-number
invariant-loop-number l = l.out.items ≡ l.fn.out.items ++ constants l.number
