use Rattle.std.proofs.Common.{◌≡◌, take}
use Rattle.search_definition.specs.Needs.{without}
use Rattle.search_loop.proofs.sets.without.Given as goal

abbrev pub invariant-loop-member : goal.invariant-loop-member
invariant-loop-member l = l.others.items ≡ without (take l.member-index l.set) l.number
