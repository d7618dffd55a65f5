use Rattle.std.proofs.Common.{◌≡◌, ◌++◌, drop}
use Rattle.core_expr.specs.Heads.{subtrees}
use Rattle.core_expr.specs.Places.{subtree}
use Rattle.canonical_form.specs.Gathering.{waiting, AreNodes}
use Rattle.canonical_form.proofs.gather.wait_for_parts.Given as goal

abbrev pub invariant-loop-k : goal.invariant-loop-k
invariant-loop-k l = record {
  waiting : waiting l.e l.places.items ≡ drop l.k (subtrees (subtree l.e l.i)) ++ waiting l.e l.fn.places.items;
  within : AreNodes l.e l.fn.places.items → AreNodes l.e l.places.items;
}
