use Rattle.std.proofs.Common.{◌≡◌, ◌-◌, ◌≤◌, true, None, length, drop}
use Rattle.tla_lexer.specs.Headers.{find, farther, header_at}
use Rattle.tla_lexer.proofs.header.find.Given as goal

abbrev pub invariant-loop-at : goal.invariant-loop-at
invariant-loop-at l = record {
  value : find l.bytes ≡ farther l.at (find (drop l.at l.bytes));
  none : l.dashed ≡ true → header_at (drop l.at l.bytes) ≡ None;
  within : l.at ≤ length l.bytes;
}

abbrev pub decreases-loop-at : goal.decreases-loop-at
decreases-loop-at l = length l.bytes - l.at
