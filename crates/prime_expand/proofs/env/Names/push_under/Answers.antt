use Rattle.std.proofs.Common.{◌++◌, map, length, refl, ap, ◌∙◌, add-one}
use Rattle.plain_syntax.specs.Syntax.{term_of, terms_of}
use Rattle.prime_expand.specs.Walk.{point, placed, deeper, finish, joined, cores_from}
use Rattle.prime_expand.proofs.Tasks.{joins}
use Rattle.prime_expand.proofs.Nodes.{count-read}
use Rattle.prime_expand.proofs.env.Names.push_under.Goals as goal

pub returns : goal.returns
returns c vs =
    let s = c.args.self.now in
    let q = point s c.args.spot in
    let n = c.args.node.now in
    let ps = c.as_slice-parts.result.now in
    let inner = c.in_ok-inner.ensures s ∙ ap (λ d. placed d q) (c.in_ok-deeper.ensures ∙ add-one c.args.spot.depth) in
    c.in_ok-push_reads.ensures s vs
    ∙ ap (λ r. finish s c.push.new.self.items (vs ++ cores_from s r (terms_of (map term_of ps)))) inner
    ∙ joins s c.args.tasks.now.items c.push.new.self.items _ (length ps) (joined s q n) vs (cores_from s (deeper q) (terms_of (map term_of ps))) _
    c.in_ok-push.ensures.items (λ ws. refl) (count-read s (deeper q) ps)
    (ap (λ m. joined s q n (cores_from s (deeper q) (terms_of (map term_of m)))) c.as_slice-parts.ensures)
