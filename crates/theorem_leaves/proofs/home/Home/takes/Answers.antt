use Rattle.std.proofs.Common.{refl}
use Rattle.theorem_leaves.specs.Moves as moves
use Rattle.theorem_leaves.proofs.Walks.{next}
use Rattle.theorem_leaves.proofs.home.Home.takes.Goals as goal

pub loop-group-preserved : goal.loop-group-preserved
loop-group-preserved c =
    let h = c.args.self.now in
    next (moves.takes h) (moves.group_takes h) (λ g gs. refl) c.args.groups.now c.loop-group.group-index c.group-item.result (moves.takes h c.args.groups.now) c.loop-group.found c.push_group.new.found
    c.loop-group-test.true c.group-item.is c.in_ok-push_group.ensures c.loop-group.invariant
