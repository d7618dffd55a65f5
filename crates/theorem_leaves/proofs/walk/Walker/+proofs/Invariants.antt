use Rattle.std.proofs.Common.{◌≡◌, drop}
use Rattle.known_facts.specs.Shown.{context_of}
use Rattle.known_facts.specs.Grown.{Grown}
use Rattle.theorem_leaves.specs.Visits.{visit_all}
use Rattle.theorem_leaves.specs.Visits.State.{going}
use Rattle.theorem_leaves.specs.Walks.{table, means, cite, entries}
use Rattle.theorem_leaves.proofs.walk.Walker.+proofs.Given as goal

abbrev pub invariant-steps-loop-step : goal.invariant-steps-loop-step
invariant-steps-loop-step l =
    (visit_all (table l.self) (means l.self) (cite l.self) (entries l.self) (drop l.step-index l.steps) (going l.number (context_of l.context) l.leaves)
    ≡ visit_all (table l.self) (means l.self) (cite l.self) (entries l.self) l.steps (going l.first (context_of l.fn.context) l.fn.leaves))
    × Grown (context_of l.fn.context).known (context_of l.context).known
