use Rattle.std.proofs.Common.{◌≡◌, map, drop}
use Rattle.plain_syntax.specs.Syntax.{module_of}
use Rattle.module_scope.specs.Known.{book_of, exports_of}
use Rattle.module_scope.specs.Resolution.{resolution, resolved}
use Rattle.module_scope.proofs.modules.resolve.Given as goal

abbrev pub invariant-loop-module : goal.invariant-loop-module
invariant-loop-module l =
    resolution (map module_of l.loaded.modules) ≡ resolved (exports_of l.exports.items) l.symbols (map module_of (drop l.module-index l.module-items)) (book_of l.walker)
