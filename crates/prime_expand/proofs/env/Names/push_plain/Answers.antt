use Rattle.std.proofs.Common.{map, length, ap, ◌∙◌}
use Rattle.plain_syntax.specs.Syntax.{term_of, terms_of}
use Rattle.prime_expand.specs.Walk.{point, joined, cores_from, taken}
use Rattle.prime_expand.proofs.Tasks.{joins}
use Rattle.prime_expand.proofs.Nodes.{count-read}
use Rattle.prime_expand.proofs.env.Names.push_plain.Goals as goal

pub returns : goal.returns
returns c vs =
    let s = c.args.self.now in
    let q = point s c.args.spot in
    let n = c.args.node.now in
    let ps = c.as_slice-parts.result.now in
    let bs = cores_from s q (terms_of (map term_of ps)) in
    c.in_ok-push_reads.ensures s vs
    ∙ joins s c.args.tasks.now.items c.push.new.self.items _ (length ps) (joined s q n) vs bs _ c.in_ok-push.ensures.items
    (λ ws. ap (λ p. taken (length ps) ws (joined s p n)) (c.in_ok-here.ensures s)) (count-read s q ps)
    (ap (λ m. joined s q n (cores_from s q (terms_of (map term_of m)))) c.as_slice-parts.ensures)
