use Rattle.std.proofs.Common.{[], sym, subst, ◌∙◌}
use Rattle.core_expr.specs.Heads.{subtrees}
use Rattle.core_expr.specs.Places.{subtree, kind_of}
use Rattle.expr_parts.specs.Walk.{inner, parts_rebuilt, Builds}
use Rattle.expr_parts.proofs.Walking.{parts_wait, none-there}
use Rattle.expr_parts.proofs.rebuild.Work.visit.Goals as goal

pub returns : goal.returns
returns c =
    let k = c.args.change in
    let t = c.args.e.now in
    let x = subtree t c.args.node in
    parts_wait k t c.shown_makes.ensures c.args.root c.args.node c.args.depth c.args.self.now.tasks.items c.visit_parts.new.tasks.items c.args.self.now.built.items c.requires.inside c.requires.formed (sym c.in_ok-leaf.ensures ∙ none-there c.in_ok-leaf.field-0 c.in_default.not-Some)
    (subst (λ ks. Builds k t ks c.visit_parts.new.tasks.items (parts_rebuilt k c.args.depth (inner c.args.depth (kind_of x)) (subtrees x))) c.in_ok-push-2.ensures.items (c.in_ok-visit_parts.ensures k)) c.requires.gives
