use Rattle.std.proofs.Common.{◌≡◌, ◌++◌, length}
use Rattle.prime_expand.specs.Forms as spec
use Rattle.prime_expand.proofs.forms.arms.Given as goal

abbrev pub invariant-loop-part : goal.invariant-loop-part
invariant-loop-part l = record {
  arms : spec.arms (spec.otherwise l.fn.parts.items) l.fn.parts.items ≡ l.done.items ++ spec.arms (spec.otherwise l.fn.parts.items) l.parts.rest.items;
  guards : spec.guards l.fn.parts.items ≡ l.guards.items ++ spec.guards l.parts.rest.items;
}

abbrev pub decreases-loop-part : goal.decreases-loop-part
decreases-loop-part l = length l.parts.rest.items
