use Rattle.std.proofs.Common.{◌≡◌, drop}
use Rattle.std.specs.Prelude.{fold}
use Rattle.status_report.specs.Telling.{told_of, tell}
use Rattle.status_report.proofs.tell.tell_theorems.Given as goal

abbrev pub invariant-loop-theorem : goal.invariant-loop-theorem
invariant-loop-theorem l = fold (tell l.style) (told_of l.told) (drop l.theorem-index l.theorems) ≡ fold (tell l.style) (told_of l.fn.told) l.theorems
