use Rattle.std.proofs.Common.{◌≡◌, ◌++◌, drop}
use Rattle.prime_expand.specs.Forms as spec
use Rattle.prime_expand.proofs.forms.field_conditions.Given as goal

abbrev pub invariant-loop-field : goal.invariant-loop-field
invariant-loop-field l = spec.field_conditions l.fields l.fn.sets.items ≡ l.done.items ++ spec.field_conditions (drop l.field-index l.fields) l.sets.rest.items
