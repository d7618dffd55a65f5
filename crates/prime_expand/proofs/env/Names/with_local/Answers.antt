use Rattle.std.proofs.Common.{ap, ◌∙◌}
use Rattle.plain_syntax.specs.Syntax.{each_def}
use Rattle.prime_expand.specs.Env.{env_of, standing_of, defining}
use Rattle.prime_expand.proofs.Envs.{env-definitions}
use Rattle.prime_expand.proofs.env.Names.with_local.Goals as goal

pub returns : goal.returns
returns c =
    let s = c.args.self.now in
    let e = ap (env_of s) c.in_ok-env.ensures.ok ∙ env-definitions s _ _ _
    ∙ (λ i. defining s (standing_of (c.in_ok-clone.ensures.cases i)) (each_def c.args.defs.now) (env_of s (c.in_ok-clone-2.ensures.cases i))) in
    λ i. record { env = e i; at = standing_of (c.in_ok-at.ensures.cases i); depth = c.args.spot.now.depth }
