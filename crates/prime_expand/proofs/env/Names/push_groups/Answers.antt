use Rattle.std.proofs.Common.{rules, ◌≡◌, ℕ, ◌+◌, ◌∷◌, ◌++◌, [], length, drop, ap, sym, ◌∙◌}
use Rattle.std.proofs.lemmas.List.{drop_more, drop_all}
use Rattle.tla_ast.specs.declared.tree.Group.{out-Group}
use Rattle.plain_syntax.specs.Syntax.{each_group}
use Rattle.prime_expand.specs.declared.both.Both.{Both}
use Rattle.prime_expand.specs.Walk.{quantified_by, point, placed, finish, bound_names, bound_groups}
use Rattle.prime_expand.proofs.Nodes.{groups-first}
use Rattle.prime_expand.proofs.env.Names.push_groups.Goals as goal

pub loop-group-preserved : goal.loop-group-preserved
loop-group-preserved c vs p =
    let s = c.args.self.now in
    let q = point s c.args.spot.now in
    let b = (quantified_by c.args.binder) in
    let i = c.loop-group.group-index in
    let gs = c.args.groups.now in
    let g = c.group-item.result in
    let now = finish s c.loop-group.tasks.items in
    let d = c.loop-group.depth in
    let e : drop i gs ≡ g ∷ drop (i + 1) gs = drop_more gs i g (search rules) ∙ ap (λ x. x ∷ drop (i + 1) gs) (sym c.group-item.is) in
    let n : c.in_ok-depth.depth ≡ d + length (out-Group g).names = c.in_ok-depth.ensures ∙ ap (λ k. d + k) c.len.ensures in
    let rest : ℕ → Both = λ k. bound_groups s (placed k q) b (each_group (drop (i + 1) gs)) p in
    c.in_ok-push_group.ensures vs (rest c.in_ok-depth.depth)
    ∙ ap (λ k. now (vs ++ bound_names s (placed d q) b (out-Group g).domain (length (out-Group g).names) (rest k) ∷ [])) n
    ∙ ap (λ x. now (vs ++ x ∷ [])) (sym (groups-first s (placed d q) b g (drop (i + 1) gs) p))
    ∙ ap (λ l. now (vs ++ bound_groups s (placed d q) b (each_group l) p ∷ [])) (sym e)
    ∙ c.loop-group.invariant vs p

pub returns : goal.returns
returns c vs p =
    let s = c.args.self.now in
    let q = point s c.args.spot.now in
    let gs = c.args.groups.now in
    let e : drop c.loop-group.group-index gs ≡ [] = drop_all c.loop-group.group-index gs (search rules) in
    ap (λ l. finish s c.loop-group.tasks.items (vs ++ bound_groups s (placed c.loop-group.depth q) (quantified_by c.args.binder) (each_group l) p ∷ [])) (sym e) ∙ c.loop-group.invariant vs p
