use Rattle.std.proofs.Common.{◌+◌, ◌++◌, map, length, refl, ap, ◌∙◌, append_assoc, length-append, add-one}
use Rattle.plain_syntax.specs.Syntax.{term_of, terms_of}
use Rattle.prime_expand.specs.Walk.{point, placed, deeper, finish, joined, cores_from}
use Rattle.prime_expand.proofs.Tasks.{joins}
use Rattle.prime_expand.proofs.Nodes.{count-read}
use Rattle.prime_expand.proofs.env.Names.push_twice.Goals as goal

pub returns : goal.returns
returns c vs =
    let s = c.args.self.now in
    let q = point s c.args.spot in
    let n = c.args.node.now in
    let ps = c.as_slice-parts.result.now in
    let ts = terms_of (map term_of ps) in
    let inner = c.in_ok-inner.ensures s ∙ ap (λ d. placed d q) (c.in_ok-deeper.ensures ∙ add-one c.args.spot.depth) in
    c.in_ok-push_reads-2.ensures s vs
    ∙ c.in_ok-push_reads.ensures s (vs ++ cores_from s (point s c.in_ok-here.here) ts)
    ∙ (λ i. finish s c.push.new.self.items ((vs ++ cores_from s (c.in_ok-here.ensures s i) ts) ++ cores_from s (inner i) ts))
    ∙ ap (finish s c.push.new.self.items) (append_assoc vs (cores_from s q ts) (cores_from s (deeper q) ts))
    ∙ joins s c.args.tasks.now.items c.push.new.self.items _ (length ps + length ps) (joined s q n) vs (cores_from s q ts ++ cores_from s (deeper q) ts) _
    c.in_ok-push.ensures.items (λ ws. refl) (length-append (cores_from s q ts) (cores_from s (deeper q) ts) ∙ (λ i. count-read s q ps i + count-read s (deeper q) ps i))
    (ap (λ m. joined s q n (cores_from s q (terms_of (map term_of m)) ++ cores_from s (deeper q) (terms_of (map term_of m)))) c.as_slice-parts.ensures)
