use Rattle.std.proofs.Common.{◌≡◌, ◌+◌, ◌∷◌, ◌++◌, [], suc, ap, sym, ◌∙◌, arith, add-one}
use Rattle.tla_ast.specs.declared.tree.Group.{out-Group}
use Rattle.prime_expand.specs.Walk.{quantified_by, point, placed, finish, bound_once, bound_names}
use Rattle.prime_expand.proofs.Nodes.{one-more-name}
use Rattle.prime_expand.proofs.env.Names.push_group.Goals as goal

pub loop-i-preserved : goal.loop-i-preserved
loop-i-preserved c vs p =
    let s = c.args.self.now in
    let q = point s c.args.spot.now in
    let o = (out-Group c.args.group.now).domain in
    let i = c.loop-i.i in
    let old = finish s c.args.tasks.now.items in
    let e = c.in_ok-depth.depth in
    let d : e ≡ c.args.depth + suc i = omega (arith, c.in_ok-depth.ensures) in
    c.in_ok-push_bound.ensures vs p
    ∙ c.loop-i.invariant vs (bound_once s q (quantified_by c.args.binder) o e p)
    ∙ ap (λ b. old (vs ++ b ∷ [])) (one-more-name s q (quantified_by c.args.binder) o c.args.depth i e p d ∙ ap (λ n. bound_names s (placed c.args.depth q) (quantified_by c.args.binder) o n p) (sym (add-one i)))
