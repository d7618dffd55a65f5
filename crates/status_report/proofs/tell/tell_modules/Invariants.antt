use Rattle.std.proofs.Common.{◌≡◌, drop}
use Rattle.std.specs.Prelude.{fold}
use Rattle.status_report.specs.Telling.{told_of, tell_module}
use Rattle.status_report.proofs.tell.tell_modules.Given as goal

abbrev pub invariant-loop-home : goal.invariant-loop-home
invariant-loop-home l = fold (tell_module l.style) (told_of l.told) (drop l.home-index l.modules) ≡ fold (tell_module l.style) (told_of l.fn.told) l.modules
