use Rattle.std.proofs.Common.{rules, ◌≡◌, ◌-◌, ◌∷◌, ◌++◌, [], map, drop, ap, sym, ◌∙◌}
use Rattle.plain_syntax.specs.Syntax.{term_of, terms_of}
use Rattle.prime_expand.specs.Walk.{point, finish, core_from, cores_from}
use Rattle.prime_expand.proofs.Tasks.{reads-next, one-more}
use Rattle.prime_expand.proofs.walk.push_reads.Goals as goal

pub loop-i-preserved : goal.loop-i-preserved
loop-i-preserved c names vs =
    let i = c.loop-i.i in
    let n = c.index-nodes-i.result in
    let q = point names c.args.spot.now in
    let old = finish names c.args.tasks.now.items in
    let e : drop (i - 1) c.args.nodes.now ≡ n ∷ drop i c.args.nodes.now = one-more c.args.nodes.now i n (search rules) (search rules) (search rules) in
    ap (λ l. finish names l vs) c.in_ok-push.ensures.items
    ∙ reads-next names c.loop-i.tasks.items _ q n vs (terms_of (map term_of (drop i c.args.nodes.now))) (λ ws. ap (λ s. ws ++ core_from names s (term_of n) ∷ []) (c.in_ok-spot.ensures names)) old (c.loop-i.invariant names)
    ∙ ap (λ l. old (vs ++ cores_from names q (terms_of (map term_of l)))) (sym e)
