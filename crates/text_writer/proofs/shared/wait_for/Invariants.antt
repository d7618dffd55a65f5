use Rattle.std.proofs.Common.{◌≡◌, ◌++◌, drop}
use Rattle.text_writer.specs.Shared.{last_first}
use Rattle.text_writer.proofs.shared.wait_for.Given as goal

abbrev pub invariant-loop-k : goal.invariant-loop-k
invariant-loop-k l = l.waiting.items ≡ l.fn.waiting.items ++ last_first (drop l.k l.parts)
