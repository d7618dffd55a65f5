use Rattle.std.proofs.Common.{◌∙◌, sym}
use Rattle.theorem_leaves.proofs.Defined.{with_prime}
use Rattle.theorem_leaves.proofs.home.Home.push_definition.Goals as goal

pub returns-in_ok-push-2 : goal.returns-in_ok-push-2
returns-in_ok-push-2 c =
    with_prime c.args.self.now c.args.def.now c.in-Some.number c.args.found.now.items c.push.new.found.items c.push-then-level-eq1.new.found.items
    (sym c.meaning.ensures ∙ c.in-Some.is) (sym c.level.ensures ∙ c.if-level-eq1.true) c.in_ok-push.ensures c.in_ok-push-2.ensures
