use Rattle.std.proofs.Common.{◌≡◌, ◌+◌, drop}
use Rattle.plain_syntax.specs.Syntax.{each_group}
use Rattle.prime_expand.specs.Core.{names_in}
use Rattle.prime_expand.proofs.env.count_names.Given as goal

abbrev pub invariant-loop-group : goal.invariant-loop-group
invariant-loop-group l = names_in (each_group l.groups) ≡ l.count + names_in (each_group (drop l.group-index l.groups))
