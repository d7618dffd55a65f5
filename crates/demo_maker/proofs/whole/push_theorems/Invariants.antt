use Rattle.std.proofs.Common.{◌≡◌, ◌++◌}
use Rattle.demo_maker.specs.Demo.{theorems}
use Rattle.demo_maker.proofs.whole.push_theorems.Given as goal

abbrev pub invariant-loop-number : goal.invariant-loop-number
invariant-loop-number l = l.out.items ≡ l.fn.out.items ++ theorems l.number
