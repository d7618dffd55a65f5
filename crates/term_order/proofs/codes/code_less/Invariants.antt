use Rattle.std.proofs.Common.{◌≡◌, ◌<◌, [], length}
use Rattle.term_order.specs.Codes.{ComparesAs}
use Rattle.term_order.proofs.codes.code_less.Given as goal

abbrev pub invariant-loop-is_less : goal.invariant-loop-is_less
invariant-loop-is_less l =
    record {
      left_within : l.left < length l.bank;
      right_within : l.right < length l.bank;
      apart : l.left ≡ l.right → ⊥;
      same : ComparesAs l.bank l.s l.t l.left l.right [] [];
    }

abbrev pub decreases-loop-is_less : goal.decreases-loop-is_less
decreases-loop-is_less l = l.left
