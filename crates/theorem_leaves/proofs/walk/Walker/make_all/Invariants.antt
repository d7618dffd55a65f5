use Rattle.std.proofs.Common.{◌≡◌, map, drop}
use Rattle.known_facts.specs.Shown.{context_of}
use Rattle.known_facts.specs.Grown.{Grown}
use Rattle.proof_leaves.specs.Shown.{step_of}
use Rattle.theorem_leaves.specs.Visits.{act_all}
use Rattle.theorem_leaves.specs.Visits.State.{going}
use Rattle.theorem_leaves.specs.Walks.{table, means, cite, entries}
use Rattle.theorem_leaves.proofs.walk.Walker.make_all.Given as goal

abbrev pub invariant-loop-step : goal.invariant-loop-step
invariant-loop-step l =
    (act_all (table l.self) (means l.self) (cite l.self) (entries l.self) l.stand.place (map (step_of l.stand.label) (drop l.step-index l.steps)) (going l.stand.next (context_of l.context) l.leaves)
    ≡ act_all (table l.self) (means l.self) (cite l.self) (entries l.self) l.stand.place (map (step_of l.stand.label) l.steps) (going l.stand.next (context_of l.fn.context) l.fn.leaves))
    × Grown (context_of l.fn.context).known (context_of l.context).known
