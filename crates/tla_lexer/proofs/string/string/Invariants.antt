use Rattle.std.proofs.Common.{◌≡◌, ◌-◌, ◌≤◌, false, length, drop}
use Rattle.tla_lexer.specs.Strings.{string_from, behind_value}
use Rattle.tla_lexer.proofs.string.string.Given as goal

abbrev pub invariant-loop-len : goal.invariant-loop-len
invariant-loop-len l = (string_from false l.z ≡ behind_value l.value.items l.len (string_from l.escaped (drop l.len l.z))) × (l.len ≤ length l.z)

abbrev pub decreases-loop-len : goal.decreases-loop-len
decreases-loop-len l = length l.z - l.len
