use Rattle.std.proofs.Common.{◌≡◌, ◌-◌, ◌≤◌, length, drop}
use Rattle.tla_lexer.specs.Comments.{rest_len, longer}
use Rattle.tla_lexer.proofs.comment.rest_len.Given as goal

abbrev pub invariant-loop-len : goal.invariant-loop-len
invariant-loop-len l = (longer l.len (rest_len l.depth (drop l.len l.z)) ≡ rest_len 0 l.z) × (l.len ≤ length l.z) × (l.depth ≤ l.len)

abbrev pub decreases-loop-len : goal.decreases-loop-len
decreases-loop-len l = length l.z - l.len
