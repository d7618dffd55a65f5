use Rattle.std.proofs.Common.{◌≡◌, ◌++◌, ◌∷◌, [], ap, get_or, ◌∙◌, rules}
use Rattle.search_definition.specs.Needs.{without}
use Rattle.search_loop.proofs.SetLaws.{without_more}
use Rattle.search_loop.proofs.sets.without.Goals as goal

pub loop-member-preserved : goal.loop-member-preserved
loop-member-preserved c =
    let xs = c.args.set.now in
    let i = c.loop-member.member-index in
    let e : c.push_other.new.others.items ≡ c.loop-member.others.items ++ without (get_or xs i 0 ∷ []) c.args.number = search rules in
    e ∙ ap (λ ys. ys ++ without (get_or xs i 0 ∷ []) c.args.number) c.loop-member.invariant ∙ without_more xs i c.args.number c.loop-member-test.true
