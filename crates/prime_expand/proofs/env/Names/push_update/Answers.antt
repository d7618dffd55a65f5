use Rattle.std.proofs.Common.{◌+◌, ◌∷◌, ◌++◌, [], suc, length, refl, ap, sym, ◌∙◌, append_assoc, add-one}
use Rattle.plain_syntax.specs.Syntax.{term_of, each_key}
use Rattle.plain_syntax.proofs.Forms.{is-path}
use Rattle.prime_expand.specs.Walk.{point, finish, keys_from, update_from, taken}
use Rattle.prime_expand.proofs.Tasks.{joins, count-keys}
use Rattle.prime_expand.proofs.env.Names.push_update.Goals as goal

pub returns : goal.returns
returns c vs r =
    let s = c.args.self.now in
    let q = point s c.args.spot.now in
    let ks = c.as_slice-keys.result.now in
    let k = keys_from s q (each_key ks) in
    let t = term_of c.args.node.now in
    c.in_ok-push_keys.ensures s (vs ++ r ∷ [])
    ∙ ap (finish s c.push.new.self.items) (append_assoc vs (r ∷ []) k)
    ∙ joins s c.args.tasks.now.items c.push.new.self.items _ (length ks + 1) (λ bs. update_from s q bs t) vs (r ∷ k) _ c.in_ok-push.ensures.items
    (λ ws. ap (λ p. taken (length ks + 1) ws (λ bs. update_from s p bs t)) (c.in_ok-here.ensures s)) (ap suc (count-keys s q ks) ∙ sym (add-one (length ks))) refl
    ∙ ap (λ l. finish s c.args.tasks.now.items (vs ++ update_from s q (r ∷ keys_from s q l) t ∷ [])) (ap each_key c.as_slice-keys.ensures ∙ sym (is-path c.args.path.now))
