use Rattle.std.proofs.Common.{rules, ◌≡◌, true, false, nat_eq, if◌then◌else◌, Some, ap, sym, ◌∙◌}
use Rattle.plain_syntax.specs.Syntax.{each_def}
use Rattle.prime_expand.specs.Core.{lookup}
use Rattle.prime_expand.specs.Core.Meaning.{given}
use Rattle.prime_expand.specs.Env.{env_of, standing_of, applied_def, defining}
use Rattle.prime_expand.proofs.Envs.{defined-more}
use Rattle.prime_expand.proofs.env.Names.or_definition.Goals as goal

pub returns-in_default : goal.returns-in_default
returns-in_default c =
    c.requires ∙ sym (defined-more c.args.self.now (standing_of c.args.at.now.value) c.args.before.now c.args.def.now (env_of c.args.self.now c.args.outer.now.value) c.args.number _ (sym c.symbol.ensures ∙ c.in_default.is))

pub returns-then-own-number : goal.returns-then-own-number
returns-then-own-number c =
    let s = c.args.self.now in
    let a = standing_of c.args.at.now.value in
    let e = env_of s c.args.outer.now.value in
    let t : nat_eq c.in-Some.own c.args.number ≡ false = search rules in
    c.requires ∙ sym (ap (λ b. if b then Some (given (applied_def s c.args.def.now c.args.before.now a e)) else lookup (defining s a (each_def c.args.before.now) e) c.args.number) t)
    ∙ sym (defined-more s a c.args.before.now c.args.def.now e c.args.number _ (sym c.symbol.ensures ∙ c.in-Some.is))

pub returns : goal.returns
returns c =
    let s = c.args.self.now in
    let a = standing_of c.args.at.now.value in
    let e = env_of s c.args.outer.now.value in
    let t : nat_eq c.in-Some.own c.args.number ≡ true = search rules in
    sym (ap (λ b. if b then Some (given (applied_def s c.args.def.now c.args.before.now a e)) else lookup (defining s a (each_def c.args.before.now) e) c.args.number) t)
    ∙ sym (defined-more s a c.args.before.now c.args.def.now e c.args.number _ (sym c.symbol.ensures ∙ c.in-Some.is))
