use Rattle.std.proofs.Common.{◌∷◌, ◌++◌, [], ap, sym, ◌∙◌}
use Rattle.plain_syntax.specs.Plain.Keys.{end_keys}
use Rattle.plain_syntax.specs.Syntax.{key_keys, term_of}
use Rattle.plain_syntax.proofs.Forms.{is-key, is-field-key}
use Rattle.prime_expand.specs.Walk.{point, finish, core_from, keys_from}
use Rattle.prime_expand.proofs.Tasks.{finish-more}
use Rattle.prime_expand.proofs.walk.push_key.Goals as goal

pub returns-in_ok-push-in-At : goal.returns-in_ok-push-in-At
returns-in_ok-push-in-At c names vs =
    let q = point names c.args.spot.now in
    let old = finish names c.args.tasks.now.items in
    ap (λ l. finish names l vs) c.in_ok-push-in-At.ensures.items
    ∙ finish-more names c.args.tasks.now.items _ vs
    ∙ ap (λ s. old (vs ++ core_from names s (term_of c.in-At.node) ∷ [])) (c.in_ok-spot-in-At.ensures names)
    ∙ ap (λ f. old (vs ++ keys_from names q (f end_keys))) (sym (ap key_keys c.in-At.is ∙ is-key c.in-At.node))

pub returns-in_ok-push-in-Field : goal.returns-in_ok-push-in-Field
returns-in_ok-push-in-Field c names vs =
    let q = point names c.args.spot.now in
    let old = finish names c.args.tasks.now.items in
    ap (λ l. finish names l vs) c.in_ok-push-in-Field.ensures.items
    ∙ finish-more names c.args.tasks.now.items _ vs
    ∙ ap (λ f. old (vs ++ keys_from names q (f end_keys))) (sym (ap key_keys c.in-Field.is ∙ is-field-key c.in-Field.name))
