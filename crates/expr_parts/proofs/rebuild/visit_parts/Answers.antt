use Rattle.std.proofs.Common.{◌-◌, ap, sym, subst, ◌∙◌, arith}
use Rattle.core_expr.specs.Heads.{subtrees}
use Rattle.core_expr.specs.Places.{subtree, kind_of}
use Rattle.expr_parts.specs.Walk.{inner, Builds}
use Rattle.expr_parts.proofs.Walking.{builds-none, part-waits, drop-all}
use Rattle.expr_parts.proofs.rebuild.visit_parts.Goals as goal

pub loop-k-init : goal.loop-k-init
loop-k-init c = λ k.
    let x = subtree c.args.e.now c.args.node in
    subst (Builds k c.args.e.now c.args.tasks.now.items c.args.tasks.now.items) (sym (drop-all k c.args.depth (inner c.args.depth (kind_of x)) (subtrees x) c.parts-count.result c.parts-count.ensures.tree))
    (builds-none k c.args.e.now c.args.tasks.now.items)

pub loop-k-preserved : goal.loop-k-preserved
loop-k-preserved c = λ k.
    let x = subtree c.args.e.now c.args.node in
    let n = c.parts-count.ensures.tree in
    let t = c.loop-k-test.true in
    part-waits k c.args.e.now c.args.node c.args.depth (inner c.args.depth (kind_of x)) c.depth_of.result c.part.result (c.loop-k.k - 1) c.loop-k.k
    c.args.tasks.now.items c.loop-k.tasks.items c.push.new.self.items (omega (arith, t)) (omega (arith, t, n, c.loop-k.auto.k))
    (λ q. c.depth_of.ensures.last (omega (arith, t, n, q)) ∙ c.in_ok-last.ensures ∙ ap (inner c.args.depth) c.kind.ensures.tree) (λ q. c.depth_of.ensures.others (omega (arith, t, n, q)))
    c.requires.inside c.requires.formed c.part.ensures.before c.part.ensures.tree c.in_ok-push.ensures.items (c.loop-k.invariant k)
