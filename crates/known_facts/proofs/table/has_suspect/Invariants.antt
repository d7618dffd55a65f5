use Rattle.std.proofs.Common.{◌≡◌, drop}
use Rattle.std.specs.List.{list_any}
use Rattle.core_expr.specs.declared.row.Row.{Row}
use Rattle.core_expr.specs.Flat.{rows_of}
use Rattle.known_facts.specs.Clean.{is_suspect, has_suspect}
use Rattle.known_facts.proofs.table.has_suspect.Given as goal

abbrev pub invariant-loop-i : goal.invariant-loop-i
invariant-loop-i l = has_suspect l.suspects l.e ≡ list_any (λ (r : Row). is_suspect l.suspects r.kind) (drop l.i (rows_of l.e))
