use Rattle.std.proofs.Common.{rules, ◌≡◌, map, fold, ap, sym, ◌∙◌}
use Rattle.prime_expand.specs.Core.{lookup}
use Rattle.prime_expand.specs.Env.{env_of, entry_of, pick}
use Rattle.prime_expand.proofs.Envs.{lookup-pushed, env-empty, env-known, env-definitions}
use Rattle.prime_expand.proofs.env.Names.+find.Goals as goal

pub returns-in-Empty : goal.returns-in-Empty
returns-in-Empty t c = sym (ap (λ e. lookup e c.args.number) (ap (env_of c.args.self.now) c.in-Empty.is ∙ env-empty c.args.self.now))

pub returns-in-Known : goal.returns-in-Known
returns-in-Known t c =
    let s = c.args.self.now in
    let n = c.args.number in
    let es = map entry_of c.in-Known.known.items in
    let k : c.as_slice.result.now ≡ c.in-Known.known.items = search rules in
    c.last_known.ensures s ∙ (λ i. fold (pick n) ((c.find.ensures ∙ ap (λ e. lookup (env_of s e) n) c.deref.ensures) i) (map entry_of (k i))) ∙ sym (lookup-pushed n es (env_of s c.in-Known.outer.value))
    ∙ sym (ap (λ e. lookup e n) (ap (env_of s) c.in-Known.is ∙ env-known s c.in-Known.known c.in-Known.outer))

pub returns-in-Definitions : goal.returns-in-Definitions
returns-in-Definitions t c =
    let s = c.args.self.now in
    c.last_defined.ensures
    ∙ sym (ap (λ e. lookup e c.args.number) (ap (env_of s) c.in-Definitions.is ∙ env-definitions s c.in-Definitions.defs c.in-Definitions.at c.in-Definitions.outer))
