use Rattle.std.proofs.Common.{◌≡◌, drop, nat_eq}
use Rattle.indexmap.specs.IndexSet.{contains}
use Rattle.proof_contexts.specs.Statuses.{by_cited}
use Rattle.status_report.proofs.judge.first_left.Given as goal

abbrev pub invariant-loop-key : goal.invariant-loop-key
invariant-loop-key l = by_cited (contains nat_eq l.done) (drop l.key-index l.keys) ≡ by_cited (contains nat_eq l.done) l.keys
