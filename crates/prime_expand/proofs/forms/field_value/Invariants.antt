use Rattle.std.proofs.Common.{◌≡◌, ◌≤◌, length}
use Rattle.prime_expand.specs.Forms as spec
use Rattle.prime_expand.proofs.Ways.{tested}
use Rattle.prime_expand.proofs.forms.field_value.Given as goal

abbrev pub invariant-loop-value : goal.invariant-loop-value
invariant-loop-value l =
    record { value : spec.field_value l.fields l.fn.values.items ≡ tested l.fields l.values.items l.rest; count : length l.values.items ≤ length l.fields }

abbrev pub decreases-loop-value : goal.decreases-loop-value
decreases-loop-value l = length l.values.items
