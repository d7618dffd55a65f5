use Rattle.std.proofs.Common.{rules, ◌≡◌, ◌-◌, ◌∷◌, ◌++◌, drop, ap, sym, ◌∙◌}
use Rattle.plain_syntax.specs.Syntax.{each_key}
use Rattle.prime_expand.specs.Walk.{point, finish, keys_from}
use Rattle.prime_expand.proofs.Tasks.{key-next, one-more}
use Rattle.prime_expand.proofs.walk.push_keys.Goals as goal

pub loop-i-preserved : goal.loop-i-preserved
loop-i-preserved c names vs =
    let i = c.loop-i.i in
    let k = c.index-keys-i.result in
    let q = point names c.args.spot.now in
    let old = finish names c.args.tasks.now.items in
    let e : drop (i - 1) c.args.keys.now ≡ k ∷ drop i c.args.keys.now = one-more c.args.keys.now i k (search rules) (search rules) (search rules) in
    key-next names c.loop-i.tasks.items c.push_key.new.tasks.items q k vs (drop i c.args.keys.now) old (c.in_ok-push_key.ensures names) (c.loop-i.invariant names)
    ∙ ap (λ l. old (vs ++ keys_from names q (each_key l))) (sym e)
