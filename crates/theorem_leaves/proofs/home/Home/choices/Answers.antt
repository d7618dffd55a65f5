use Rattle.std.proofs.Common.{refl}
use Rattle.theorem_leaves.specs.Moves as moves
use Rattle.theorem_leaves.proofs.Walks.{next}
use Rattle.theorem_leaves.proofs.home.Home.choices.Goals as goal

pub loop-group-preserved : goal.loop-group-preserved
loop-group-preserved c =
    let h = c.args.self.now in
    next (moves.choices h) (moves.group_choices h) (λ g gs. refl) c.args.groups.now c.loop-group.group-index c.group-item.result (moves.choices h c.args.groups.now) c.loop-group.found c.push_chosen.new.found
    c.loop-group-test.true c.group-item.is c.in_ok-push_chosen.ensures c.loop-group.invariant
