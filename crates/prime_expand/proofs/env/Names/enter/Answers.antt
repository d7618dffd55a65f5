use Rattle.std.proofs.Common.{rules, ◌≡◌, ◌∷◌, ◌++◌, [], refl, ap, sym, ◌∙◌}
use Rattle.plain_syntax.specs.Syntax.{term_of}
use Rattle.prime_expand.specs.Both.{part_at}
use Rattle.prime_expand.specs.Forms.{along, updated}
use Rattle.prime_expand.specs.Env.{env_of, standing_of}
use Rattle.prime_expand.specs.Walk.{point, with_result, finish, core_from, update_from}
use Rattle.prime_expand.proofs.Tasks.{reads-last, joins, taken-first}
use Rattle.prime_expand.proofs.env.Names.enter.Goals as goal

pub returns : goal.returns
returns c =
    let s = c.args.self.now in
    let q = point s c.args.spot in
    let n = c.args.node.now in
    let r = c.remove-done.result in
    let ks = c.remove-done.new.self.items in
    let cs = c.args.cores.now.items in
    let all : c.args.parts.items ≡ r ∷ ks = taken-first c.args.parts.items r ks (search rules) c.remove-done.ensures.value c.remove-done.ensures.items in
    let here : c.in_ok-at.at.value ≡ record { depth = c.args.spot.depth; value = along r ks } =
    c.in_ok-at.ensures.ok ∙ (λ i. record { depth = c.args.spot.depth; value = (c.in_ok-here.ensures ∙ ap (along r) c.as_slice.ensures.value) i }) in
    let inner : point s (record { env = c.in_ok-clone.field-0; at = c.in_ok-at.at; depth = c.args.spot.depth }) ≡ with_result (along r ks) q =
    λ i. record { env = env_of s (c.in_ok-clone.ensures.cases i); at = standing_of (here i); depth = c.args.spot.depth } in
    let v = core_from s (with_result (along r ks) q) (term_of n) in
    reads-last s c.push-2.new.self.items c.push-3.new.self.items _ (with_result (along r ks) q) n cs c.in_ok-push-3.ensures.items (λ ws. ap (λ p. ws ++ core_from s p (term_of n) ∷ []) inner)
    ∙ joins s c.args.tasks.now.items c.push-2.new.self.items _ 1 (λ bs. updated r ks (part_at 0 bs)) cs (v ∷ []) _ c.in_ok-push-2.ensures.items (λ ws. refl) refl refl
    ∙ ap (λ l. finish s c.args.tasks.now.items (cs ++ update_from s q l (term_of n) ∷ [])) (sym all)
