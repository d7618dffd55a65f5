use Rattle.std.proofs.Common.{map, ap, ◌∙◌}
use Rattle.plain_syntax.specs.Syntax.{each_def}
use Rattle.prime_expand.specs.Env.{env_of, standing_of, defining, arguing, pushed, entry_of}
use Rattle.prime_expand.proofs.Envs.{env-definitions}
use Rattle.prime_expand.proofs.env.Names.in_body.Goals as goal

pub returns : goal.returns
returns c =
    let s = c.args.self.now in
    let d = c.args.depth in
    let round = ap (env_of s) c.in_ok-new.ensures.ok ∙ env-definitions s _ _ _
    ∙ (λ i. defining s (standing_of (c.in_ok-clone.ensures.cases i)) (each_def c.args.before.now) (env_of s (c.in_ok-clone-2.ensures.cases i))) in
    let e = ap (env_of s) c.in_ok-env.ensures.ok ∙ c.into_env.ensures s ∙ c.in_ok-note_arguments.ensures
    ∙ (λ i. arguing s d (c.as_slice.ensures i) c.args.args.items (pushed (map entry_of (c.new.ensures.items i)) (round i))) in
    λ i. record { env = e i; at = standing_of (c.in_ok-at.ensures.cases i); depth = d }
