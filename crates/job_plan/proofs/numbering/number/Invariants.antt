use Rattle.std.proofs.Common.{◌≡◌, []}
use Rattle.indexmap.specs.IndexSet.{insert_all}
use Rattle.core_expr.specs.Equality.{same_canon}
use Rattle.job_plan.specs.Plan.{ArePlaces, canons_of, names_of}
use Rattle.job_plan.proofs.numbering.number.Given as goal

abbrev pub invariant-loop-leaf : goal.invariant-loop-leaf
invariant-loop-leaf l = record {
  jobs : l.jobs.keys ≡ insert_all same_canon [] (canons_of l.yielded);
  places : ArePlaces l.jobs.keys (canons_of l.yielded) l.of_leaf.items;
  names : l.names.items ≡ names_of l.yielded;
}
