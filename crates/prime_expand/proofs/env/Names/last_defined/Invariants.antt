use Rattle.std.proofs.Common.{◌≡◌, take}
use Rattle.plain_syntax.specs.Syntax.{each_def}
use Rattle.prime_expand.specs.Core.{lookup}
use Rattle.prime_expand.specs.Env.{defining, meaning, standing_of, env_of}
use Rattle.prime_expand.proofs.env.Names.last_defined.Given as goal

abbrev pub invariant-loop-i : goal.invariant-loop-i
invariant-loop-i l = meaning l.self l.found ≡ lookup (defining l.self (standing_of l.at.value) (each_def (take l.i l.defs)) (env_of l.self l.outer.value)) l.number
