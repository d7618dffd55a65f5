use Rattle.prime_expand.proofs.Envs.{env-known}
use Rattle.prime_expand.proofs.env.Frame.into_env.Goals as goal

pub returns : goal.returns
returns c names = env-known names c.args.self.known c.args.self.outer
