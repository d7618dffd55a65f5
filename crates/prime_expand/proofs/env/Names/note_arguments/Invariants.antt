use Rattle.std.proofs.Common.{◌≡◌, drop}
use Rattle.prime_expand.specs.Env.{arguing, frame_env}
use Rattle.prime_expand.proofs.env.Names.note_arguments.Given as goal

abbrev pub invariant-loop-param : goal.invariant-loop-param
invariant-loop-param l =
    arguing l.self l.depth l.params l.fn.args.items (frame_env l.self l.fn.frame) ≡ arguing l.self l.depth (drop l.param-index l.params) l.args.rest.items (frame_env l.self l.frame)
