use Rattle.std.proofs.Common.{◌≡◌, ◌++◌}
use Rattle.demo_maker.specs.Demo.{links}
use Rattle.demo_maker.proofs.parts.push_links.Given as goal

abbrev pub invariant-loop-link : goal.invariant-loop-link
invariant-loop-link l = l.out.items ≡ l.fn.out.items ++ links l.link
