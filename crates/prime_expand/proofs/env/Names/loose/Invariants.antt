use Rattle.std.proofs.Common.{◌≡◌, ◌++◌, drop}
use Rattle.prime_expand.specs.Core as spec
use Rattle.prime_expand.specs.Env.{means, entries}
use Rattle.prime_expand.proofs.env.Names.loose.Given as goal

abbrev pub invariant-loop-flag : goal.invariant-loop-flag
invariant-loop-flag l =
    spec.loose (means l.self) (entries l.self) l.fn.left l.fn.more l.flags
    ≡ l.found.items ++ spec.loose (means l.self) (entries l.self) l.left l.more (drop l.flag-index l.flags)
