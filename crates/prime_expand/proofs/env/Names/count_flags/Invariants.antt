use Rattle.std.proofs.Common.{◌≡◌, ◌+◌, drop}
use Rattle.prime_expand.specs.Core.{flags_in}
use Rattle.prime_expand.specs.Env.{means, entries}
use Rattle.prime_expand.proofs.env.Names.count_flags.Given as goal

abbrev pub invariant-loop-flag : goal.invariant-loop-flag
invariant-loop-flag l =
    flags_in (means l.self) (entries l.self) l.flags ≡ l.count + flags_in (means l.self) (entries l.self) (drop l.flag-index l.flags)
