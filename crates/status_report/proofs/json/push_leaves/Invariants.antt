use Rattle.std.proofs.Common.{◌≡◌, ◌++◌, drop, nat_eq, true}
use Rattle.status_report.specs.Json.{leaves_json}
use Rattle.status_report.proofs.json.push_leaves.Given as goal

abbrev pub invariant-loop-i : goal.invariant-loop-i
invariant-loop-i l = l.out.items ++ leaves_json (nat_eq l.i 0) (drop l.i l.leaves) ≡ l.fn.out.items ++ leaves_json true l.leaves
