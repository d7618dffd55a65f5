use Rattle.std.proofs.Common.{◌≡◌, ◌∷◌, ◌++◌, [], rules}
use Rattle.search_definition.specs.Values.{both_true}
use Rattle.proof_writer.specs.Written.{opens, tree_at}
use Rattle.proof_trees.specs.Valued.{and_by}
use Rattle.rule_proofs.specs.Values.{truth_of}
use Rattle.rule_proofs.proofs.Shown.{two_shown}
use Rattle.rule_proofs.proofs.tasks.and_joined.Goals as goal

pub returns-in_ok-push-clause-ok : goal.returns-in_ok-push-clause-ok
returns-in_ok-push-clause-ok c =
    let v = c.args.w.now in
    let us = c.args.values.now.items in
    let vs = c.take_two.new.values.items in
    let x = c.in-Some.x in
    let y = c.in-Some.y in
    let e : us ≡ vs ++ x ∷ y ∷ [] = search rules in
    let d : c.push.new.self.items ≡ vs ++ c.both_true.result ∷ [] = search rules in
    let t : truth_of c.both_true.result ≡ both_true (truth_of x) (truth_of y) = search rules in
    two_shown both_true (λ x y. and_by x y (tree_at v c.args.a) (tree_at v c.args.b)) vs us c.push.new.self.items x y c.both_true.result (opens v) (opens c.join_and.new.w) e d t c.in_ok-join_and.ensures.ok
