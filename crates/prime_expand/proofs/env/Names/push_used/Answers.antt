use Rattle.std.proofs.Common.{◌≡◌, ◌∷◌, ◌++◌, [], None, Some, ap, sym, ◌∙◌}
use Rattle.plain_syntax.specs.Syntax.{term_of}
use Rattle.prime_expand.specs.Symbols.{head_in, values}
use Rattle.prime_expand.specs.Core.{lookup}
use Rattle.prime_expand.specs.Core.Meaning.{given}
use Rattle.prime_expand.specs.Env.{means, env_of, meaning, standing_of, applied_def}
use Rattle.prime_expand.specs.Walk.{in_body, finish, core_from}
use Rattle.prime_expand.proofs.Tasks.{reads-last}
use Rattle.prime_expand.proofs.Nodes.{used-local}
use Rattle.prime_expand.proofs.env.Names.push_used.Goals as goal

pub returns : goal.returns
returns c =
    let s = c.args.self.now in
    let n = c.get.result.now in
    let e = env_of s c.args.spot.env.value in
    let d = c.in-Definition.def.now in
    let b = c.in-Definition.before.now in
    let a = standing_of c.in-Definition.at.now.value in
    let r = env_of s c.in-Definition.outer.now.value in
    let old = finish s c.args.tasks.now.items in
    let none : head_in values c.args.word.now ≡ None = sym c.value.ensures.head ∙ c.in_default.is in
    let number : means s c.args.place ≡ Some c.in-Some-symbol.number = sym c.symbol.ensures ∙ c.in-Some-symbol.is in
    let local : lookup e c.in-Some-symbol.number ≡ Some (given (applied_def s d b a r)) =
    ap (λ v. lookup (env_of s v) c.in-Some-symbol.number) (sym c.deref.ensures) ∙ sym c.find.ensures ∙ ap (meaning s) c.in-Definition.is in
    reads-last s c.args.tasks.now.items c.push-in-Definition.new.self.items _ (in_body s d b a r c.args.spot.depth c.args.args.items) n c.args.cores.now.items c.in_ok-push-in-Definition.ensures.items
    (λ ws. ap (λ q. ws ++ core_from s q (term_of n) ∷ []) c.in_ok-spot-in-Definition.ensures)
    ∙ ap (λ m. old (c.args.cores.now.items ++ core_from s (in_body s d b a r c.args.spot.depth c.args.args.items) (term_of m) ∷ [])) c.get.ensures
    ∙ ap (λ x. old (c.args.cores.now.items ++ x ∷ [])) (sym (used-local s c.args.word.now e c.args.place c.args.spot.depth c.in-Some-symbol.number c.args.args.items (applied_def s d b a r) none number local))
