use Rattle.std.proofs.Common.{rules, subst, ap, ◌<◌}
use Rattle.tla_ast.proofs.+ast.Goals as goal
use Rattle.tla_ast.proofs.Light.{parts-light, form-light, next-light}
use Rattle.tla_ast.proofs.tree.Form.TheLaws as form

pub tree::Node::drop-loop-init : goal.tree::Node::drop-loop-init
tree::Node::drop-loop-init t c = parts-light _ _ _ c.in-Some.ensures

pub tree::Node::drop-drop-requires-in-loop : goal.tree::Node::drop-drop-requires-in-loop
tree::Node::drop-drop-requires-in-loop t c κs = let h : form.the_size c.taken_apart-form.result.0 < t = subst (λ n. form.the_size c.taken_apart-form.result.0 < n) c.decreases (form-light _ _ _ (ap (λ r. r.0) c.taken_apart-form.ensures) c.loop.invariant.0) in search rules

pub tree::Node::drop-loop-preserved : goal.tree::Node::drop-loop-preserved
tree::Node::drop-loop-preserved t c = next-light _ _ _ _ _ _ (ap (λ r. r.1) c.taken_apart-form.ensures) c.in-Some-next.ensures c.loop.invariant.0 c.loop.invariant.1
