use Rattle.std.proofs.Common.{◌≡◌, ◌++◌, map, drop}
use Rattle.leaf_jobs.specs.Values.{symbol_text, more_values}
use Rattle.leaf_jobs.proofs.values.push_more.Given as goal

abbrev pub invariant-loop-i : goal.invariant-loop-i
invariant-loop-i l =
    l.out.items ++ more_values (map (symbol_text l.scoped.entries) (drop l.i l.order)) (drop l.i l.values)
    ≡ l.fn.out.items ++ more_values (map (symbol_text l.scoped.entries) l.order) l.values
