-- The order of places.
use Rattle.std.specs.Prelude.{Bool, ◌&&◌, ◌||◌, ◌==◌, nat_lt, if◌then◌else◌}
use Rattle.std.specs.declared.cmp.Ordering.{Ordering}
use Rattle.std.specs.declared.cmp.Ordering.TheVariants.{Less, Equal, Greater}
use Rattle.tla_ast.specs.declared.place.Place.{Place}

-- on an earlier line, or on the same line in an earlier column
abbrev pub before : Place → Place → Bool
before p q = nat_lt p.line q.line || (p.line == q.line && nat_lt p.column q.column)

-- by line, then by column
abbrev pub compare_places : Place → Place → Ordering
compare_places p q = if before p q then Less else (if before q p then Greater else Equal)
