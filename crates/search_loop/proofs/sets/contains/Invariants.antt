use Rattle.std.proofs.Common.{◌≡◌, drop}
use Rattle.search_definition.specs.Needs.{contains}
use Rattle.search_loop.specs.Stacks.{Falls}
use Rattle.search_loop.proofs.sets.contains.Given as goal

abbrev pub invariant-loop-member : goal.invariant-loop-member
invariant-loop-member l = record { same : contains l.set l.number ≡ contains (drop l.member-index l.set) l.number; falls : Falls (drop l.member-index l.set) }
