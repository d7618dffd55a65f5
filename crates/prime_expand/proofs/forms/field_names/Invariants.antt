use Rattle.std.proofs.Common.{◌≡◌, map, take}
use Rattle.core_expr.specs.Tree.{str_}
use Rattle.prime_expand.proofs.forms.field_names.Given as goal

abbrev pub invariant-loop-field : goal.invariant-loop-field
invariant-loop-field l = l.names.items ≡ map (λ h. str_ h) (take l.field-index l.fields)
