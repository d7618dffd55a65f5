use Rattle.std.proofs.Common.{◌≡◌, [], map, drop}
use Rattle.plain_syntax.specs.Syntax.{module_of}
use Rattle.theorem_leaves.specs.Keeping.{kept_of, keep_modules}
use Rattle.theorem_leaves.proofs.keys.theorem_keys.Given as goal

abbrev pub invariant-loop-number : goal.invariant-loop-number
invariant-loop-number l = keep_modules l.scoped l.number (map module_of (drop l.number l.modules)) (kept_of l.keys) ≡ keep_modules l.scoped 0 (map module_of l.modules) (record { found = []; before = 0 })
