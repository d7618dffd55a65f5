use Rattle.expr_parts.specs.Walk.{Gives}
use Rattle.expr_parts.proofs.rebuild.rebuild.Given as goal

abbrev pub invariant-loop : goal.invariant-loop
invariant-loop l = Gives l.change l.e l.node l.work.tasks.items l.work.built.items
