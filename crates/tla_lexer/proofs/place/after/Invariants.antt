use Rattle.std.proofs.Common.{◌≡◌, ◌+◌, ◌*◌, ◌≤◌, drop}
use Rattle.tla_lexer.specs.Place.{after}
use Rattle.tla_lexer.proofs.place.after.Given as goal

abbrev pub invariant-loop-byte : goal.invariant-loop-byte
invariant-loop-byte l = record {
  value : after l.p (drop l.byte-index l.z) ≡ after l.fn.p l.z;
  line : l.p.line ≤ l.fn.p.line + l.byte-index;
  column : l.p.column ≤ l.fn.p.column + 8 * l.byte-index;
}
