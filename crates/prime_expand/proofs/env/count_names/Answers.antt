use Rattle.std.proofs.Common.{rules, ◌≡◌, ◌+◌, ◌∷◌, drop, length, ap, sym, ◌∙◌, arith}
use Rattle.std.proofs.lemmas.List.{drop_more}
use Rattle.tla_ast.specs.declared.tree.Group.{out-Group}
use Rattle.plain_syntax.specs.Syntax.{each_group}
use Rattle.prime_expand.specs.Core.{names_in}
use Rattle.prime_expand.proofs.Envs.{names_first}
use Rattle.prime_expand.proofs.env.count_names.Goals as goal

pub loop-group-preserved : goal.loop-group-preserved
loop-group-preserved c =
    let i = c.loop-group.group-index in
    let gs = c.args.groups.now in
    let g = c.group-item.result in
    let e : drop i gs ≡ g ∷ drop (i + 1) gs = drop_more gs i g (search rules) ∙ ap (λ x. x ∷ drop (i + 1) gs) (sym c.group-item.is) in
    let d : c.in_ok-count.count ≡ c.loop-group.count + length (out-Group g).names = c.in_ok-count.ensures ∙ ap (λ n. c.loop-group.count + n) c.len.ensures in
    omega (arith, c.loop-group.invariant ∙ ap (λ l. c.loop-group.count + names_in (each_group l)) e, names_first g (drop (i + 1) gs), d)
