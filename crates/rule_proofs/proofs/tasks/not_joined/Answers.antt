use Rattle.std.proofs.Common.{◌≡◌, ◌∷◌, ◌++◌, [], rules}
use Rattle.search_definition.specs.Values.{opposite}
use Rattle.proof_writer.specs.Written.{opens, tree_at}
use Rattle.proof_trees.specs.Valued.{not_by}
use Rattle.rule_proofs.proofs.Shown.{one_shown}
use Rattle.rule_proofs.proofs.tasks.not_joined.Goals as goal

pub returns-in_ok-push-clause-ok : goal.returns-in_ok-push-clause-ok
returns-in_ok-push-clause-ok c =
    let v = c.args.w.now in
    let us = c.args.values.now.items in
    let vs = c.pop.new.self.items in
    let x = c.in-Some.x in
    let e : us ≡ vs ++ x ∷ [] = search rules in
    let d : c.push.new.self.items ≡ vs ++ c.opposite.result ∷ [] = search rules in
    one_shown opposite (λ x. not_by x (tree_at v c.args.a)) vs us c.push.new.self.items x c.opposite.result (opens v) (opens c.join_not.new.w) e d c.opposite.ensures c.in_ok-join_not.ensures.ok
