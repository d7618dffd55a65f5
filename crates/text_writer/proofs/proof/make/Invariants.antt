use Rattle.std.proofs.Common.{◌≡◌, ◌-◌, [], length, map}
use Rattle.core_expr.specs.Nodes.{AreBelow}
use Rattle.text_writer.specs.declared.task.Task.TheVariants.{Visit}
use Rattle.text_writer.specs.Shared.{AreNoted}
use Rattle.text_writer.specs.Tasks.{state, act, acts, step_of}
use Rattle.text_writer.proofs.proof.make.Given as goal

abbrev pub invariant-loop : goal.invariant-loop
invariant-loop l = record {
  entered : acts l.proof l.tasks.items (state l.made.growing.table.keys l.made.steps.items l.made.places.items) ≡ act l.proof (Visit (length l.proof.steps - 1)) (state [] [] []);
  noted : AreNoted l.proof.nodes l.made.growing.table.keys l.made.growing.places.items;
  tasks : AreBelow (length l.proof.steps) (map step_of l.tasks.items);
}
