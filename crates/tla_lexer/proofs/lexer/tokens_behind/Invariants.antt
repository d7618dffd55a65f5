use Rattle.std.proofs.Common.{◌≡◌, ◌+◌, ◌-◌, ◌*◌, ◌≤◌, length, drop}
use Rattle.tla_lexer.specs.Tokens.{tokens_from, behind}
use Rattle.tla_lexer.proofs.lexer.tokens_behind.Given as goal

abbrev pub invariant-loop-at : goal.invariant-loop-at
invariant-loop-at l = record {
  value : tokens_from 0 l.fn.begin (drop l.fn.start l.bytes) ≡ behind l.list (tokens_from 0 l.place (drop l.at l.bytes));
  within : l.at ≤ length l.bytes;
  line : l.place.line ≤ 1 + l.at;
  column : l.place.column ≤ 1 + 8 * l.at;
}

abbrev pub decreases-loop-at : goal.decreases-loop-at
decreases-loop-at l = length l.bytes - l.at
