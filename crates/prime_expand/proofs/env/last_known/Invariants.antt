use Rattle.std.proofs.Common.{◌≡◌, map, drop, fold}
use Rattle.prime_expand.specs.declared.env.Names.{Names}
use Rattle.prime_expand.specs.Env.{meaning, entry_of, pick}
use Rattle.prime_expand.proofs.env.last_known.Given as goal

abbrev pub invariant-loop-name : goal.invariant-loop-name
invariant-loop-name l =
    (names : Names) → fold (pick l.number) (meaning names l.fn.found) (map entry_of l.known) ≡ fold (pick l.number) (meaning names l.found) (map entry_of (drop l.name-index l.known))
