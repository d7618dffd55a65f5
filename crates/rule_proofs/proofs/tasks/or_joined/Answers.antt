use Rattle.std.proofs.Common.{◌≡◌, ◌∷◌, ◌++◌, [], rules}
use Rattle.search_definition.specs.Values.{one_true}
use Rattle.proof_writer.specs.Written.{opens, tree_at}
use Rattle.proof_trees.specs.Valued.{or_by}
use Rattle.rule_proofs.specs.Values.{truth_of}
use Rattle.rule_proofs.proofs.Shown.{two_shown}
use Rattle.rule_proofs.proofs.tasks.or_joined.Goals as goal

pub returns-in_ok-push-clause-ok : goal.returns-in_ok-push-clause-ok
returns-in_ok-push-clause-ok c =
    let v = c.args.w.now in
    let us = c.args.values.now.items in
    let vs = c.take_two.new.values.items in
    let x = c.in-Some.x in
    let y = c.in-Some.y in
    let e : us ≡ vs ++ x ∷ y ∷ [] = search rules in
    let d : c.push.new.self.items ≡ vs ++ c.one_true.result ∷ [] = search rules in
    let t : truth_of c.one_true.result ≡ one_true (truth_of x) (truth_of y) = search rules in
    two_shown one_true (λ x y. or_by x y (tree_at v c.args.a) (tree_at v c.args.b)) vs us c.push.new.self.items x y c.one_true.result (opens v) (opens c.join_or.new.w) e d t c.in_ok-join_or.ensures.ok
