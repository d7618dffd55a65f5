use Rattle.std.proofs.Common.{◌≡◌, ◌++◌, map, length}
use Rattle.cache_file.specs.Lines.{lines_of}
use Rattle.cache_file.proofs.lines.lines.Given as goal

abbrev pub invariant-loop-left : goal.invariant-loop-left
invariant-loop-left l = map (λ s. s.now) l.found.items ++ lines_of l.left ≡ lines_of l.bytes

abbrev pub decreases-loop-left : goal.decreases-loop-left
decreases-loop-left l = length l.left
