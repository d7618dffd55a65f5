use Rattle.std.proofs.Common.{◌≡◌, drop, nat_eq, true}
use Rattle.status_report.specs.Telling.{told_of}
use Rattle.status_report.specs.Json.{tell_all_json}
use Rattle.status_report.proofs.json.tell_all.Given as goal

abbrev pub invariant-loop-i : goal.invariant-loop-i
invariant-loop-i l = tell_all_json (nat_eq l.i 0) (told_of l.told) (drop l.i l.theorems) ≡ tell_all_json true (told_of l.fn.told) l.theorems
