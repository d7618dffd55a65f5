use Rattle.std.proofs.Common.{◌++◌, map, length, refl, ap, ◌∙◌}
use Rattle.plain_syntax.specs.Syntax.{term_of, terms_of, each_def}
use Rattle.prime_expand.specs.Both.{part_at}
use Rattle.prime_expand.specs.Walk.{point, with_local, finish, cores_from}
use Rattle.prime_expand.proofs.Tasks.{joins}
use Rattle.prime_expand.proofs.Nodes.{count-read}
use Rattle.prime_expand.proofs.env.Names.push_local.Goals as goal

pub returns : goal.returns
returns c vs =
    let s = c.args.self.now in
    let q = with_local s (each_def c.args.defs.now) (point s c.args.spot) in
    let ns = c.args.parts.now in
    let ts = terms_of (map term_of ns) in
    c.in_ok-push_reads.ensures s vs
    ∙ ap (λ r. finish s c.push.new.self.items (vs ++ cores_from s r ts)) c.in_ok-inner.ensures
    ∙ joins s c.args.tasks.now.items c.push.new.self.items _ (length ns) (part_at 0) vs (cores_from s q ts) _ c.in_ok-push.ensures.items (λ ws. refl) (count-read s q ns) refl
