use Rattle.std.proofs.Common.{◌≡◌, ◌≤◌, length}
use Rattle.std.specs.Prelude.{vec_capacity}
use Rattle.std.specs.List.{AllByRecursion}
use Rattle.worker_map.specs.Desks.{IsEmpty}
use Rattle.worker_map.proofs.desk.desks.Given as goal

abbrev pub invariant-loop-number : goal.invariant-loop-number
invariant-loop-number l = record {
  count : length l.all.items ≡ l._number;
  room : l.count ≤ vec_capacity l.all;
  empty : AllByRecursion (IsEmpty l.jobs) l.all.items;
}
