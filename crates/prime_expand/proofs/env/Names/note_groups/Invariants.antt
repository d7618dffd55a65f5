use Rattle.std.proofs.Common.{◌≡◌, drop}
use Rattle.plain_syntax.specs.Syntax.{each_group}
use Rattle.prime_expand.specs.Env.{grouping, frame_env}
use Rattle.prime_expand.proofs.env.Names.note_groups.Given as goal

abbrev pub invariant-loop-group : goal.invariant-loop-group
invariant-loop-group l =
    grouping l.self l.fn.depth (each_group l.groups) (frame_env l.self l.fn.frame) ≡ grouping l.self l.depth (each_group (drop l.group-index l.groups)) (frame_env l.self l.frame)
