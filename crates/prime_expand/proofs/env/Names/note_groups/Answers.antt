use Rattle.std.proofs.Common.{rules, ◌≡◌, ◌+◌, ◌∷◌, drop, length, ap, sym, ◌∙◌}
use Rattle.std.proofs.lemmas.List.{drop_more}
use Rattle.tla_ast.specs.declared.tree.Group.{out-Group}
use Rattle.plain_syntax.specs.Syntax.{each_group}
use Rattle.prime_expand.specs.Env.{grouping, naming, frame_env}
use Rattle.prime_expand.proofs.Envs.{grouping_first}
use Rattle.prime_expand.proofs.env.Names.note_groups.Goals as goal

pub loop-group-preserved : goal.loop-group-preserved
loop-group-preserved c =
    let s = c.args.self.now in
    let i = c.loop-group.group-index in
    let gs = c.args.groups.now in
    let g = c.group-item.result in
    let e : drop i gs ≡ g ∷ drop (i + 1) gs = drop_more gs i g (search rules) ∙ ap (λ x. x ∷ drop (i + 1) gs) (sym c.group-item.is) in
    let d : c.in_ok-depth.depth ≡ c.loop-group.depth + length (out-Group g).names = c.in_ok-depth.ensures ∙ ap (λ n. c.loop-group.depth + n) c.len.ensures in
    let f : frame_env s c.note_names.new.frame ≡ naming s c.loop-group.depth (out-Group g).names (frame_env s c.loop-group.frame) = search rules in
    c.loop-group.invariant ∙ ap (λ l. grouping s c.loop-group.depth (each_group l) (frame_env s c.loop-group.frame)) e
    ∙ grouping_first s c.loop-group.depth g (drop (i + 1) gs) (frame_env s c.loop-group.frame)
    ∙ (λ j. grouping s (sym d j) (each_group (drop (i + 1) gs)) (sym f j))
