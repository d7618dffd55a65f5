use Rattle.std.proofs.Common.{◌≡◌, drop}
use Rattle.module_scope.specs.Known.{exports_of}
use Rattle.module_scope.specs.Resolution.{exported}
use Rattle.module_scope.proofs.extend.exported.Given as goal

abbrev pub invariant-loop-export : goal.invariant-loop-export
invariant-loop-export l = exported (exports_of l.exports) l.name ≡ exported (exports_of (drop l.export-index l.exports)) l.name
