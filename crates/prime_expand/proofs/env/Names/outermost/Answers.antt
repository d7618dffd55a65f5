use Rattle.std.proofs.Common.{ap, ◌∙◌}
use Rattle.prime_expand.specs.Env.{env_of, standing_of}
use Rattle.prime_expand.proofs.Envs.{env-empty}
use Rattle.prime_expand.proofs.env.Names.outermost.Goals as goal

pub returns : goal.returns
returns c =
    let s = c.args.self.now in
    let e = ap (env_of s) c.in_ok-env.ensures.ok ∙ env-empty s in
    let a = ap standing_of c.in_ok-at.ensures.ok ∙ ap (λ b. (0, b)) c.in_ok-value.ensures in
    λ i. record { env = e i; at = a i; depth = 0 }
