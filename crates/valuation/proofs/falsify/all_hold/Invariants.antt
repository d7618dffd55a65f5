use Rattle.std.proofs.Common.{◌≡◌, drop}
use Rattle.valuation.specs.Truth.{all_hold, by_number}
use Rattle.valuation.proofs.falsify.all_hold.Given as goal

abbrev pub invariant-loop-fact : goal.invariant-loop-fact
invariant-loop-fact l = all_hold (by_number l.values) (drop l.fact-index l.facts) ≡ all_hold (by_number l.values) l.facts
