use Rattle.std.proofs.Common.{◌≡◌, drop}
use Rattle.prime_expand.specs.Env.{naming, frame_env}
use Rattle.prime_expand.proofs.env.Names.note_names.Given as goal

abbrev pub invariant-loop-name : goal.invariant-loop-name
invariant-loop-name l = naming l.self l.fn.depth l.names (frame_env l.self l.fn.frame) ≡ naming l.self l.depth (drop l.name-index l.names) (frame_env l.self l.frame)
