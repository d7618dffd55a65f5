use Rattle.std.proofs.Common.{◌≡◌, ◌∷◌, ◌++◌, [], rules}
use Rattle.proof_writer.specs.Written.{count}
use Rattle.rule_proofs.proofs.Lefts.{below_wider}
use Rattle.rule_proofs.proofs.Showing.{under_now, lighter, next}
use Rattle.rule_proofs.proofs.tasks.show.Goals as goal

pub turn-requires-clause-grounds : goal.turn-requires-clause-grounds
turn-requires-clause-grounds c = below_wider (count c.args.w.now) (count c.loop-task.w) c.args.grounds.now c.loop-task.invariant.more c.requires.grounds

pub turn-requires-clause-under : goal.turn-requires-clause-under
turn-requires-clause-under c =
    let is : c.loop-task.tasks.items ≡ c.pop.new.self.items ++ c.in-Some.task ∷ [] = search rules in
    under_now c.args.w.now c.loop-task.w c.args.grounds.now c.args.f c.pop.new.self.items c.in-Some.task c.loop-task.tasks.items c.loop-task.values.items c.requires.grounds is c.loop-task.invariant

pub loop-task-smaller : goal.loop-task-smaller
loop-task-smaller c =
    let is : c.loop-task.tasks.items ≡ c.pop.new.self.items ++ c.in-Some.task ∷ [] = search rules in
    lighter c.args.w.now c.loop-task.w c.args.grounds.now c.args.f c.pop.new.self.items c.in-Some.task c.loop-task.tasks.items c.loop-task.values.items c.requires.grounds is c.loop-task.invariant
    c.turn.new.w c.turn.new.tasks.items c.turn.new.values.items c.in_ok-turn.ensures.more c.in_ok-turn.ensures.same c.in_ok-turn.ensures.enough c.in_ok-turn.ensures.ok

pub loop-task-preserved : goal.loop-task-preserved
loop-task-preserved c =
    let is : c.loop-task.tasks.items ≡ c.pop.new.self.items ++ c.in-Some.task ∷ [] = search rules in
    next c.args.w.now c.loop-task.w c.args.grounds.now c.args.f c.pop.new.self.items c.in-Some.task c.loop-task.tasks.items c.loop-task.values.items c.requires.grounds is c.loop-task.invariant
    c.turn.new.w c.turn.new.tasks.items c.turn.new.values.items c.in_ok-turn.ensures.more c.in_ok-turn.ensures.same c.in_ok-turn.ensures.enough c.in_ok-turn.ensures.ok
