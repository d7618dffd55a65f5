use Rattle.std.proofs.Common.{◌≡◌, drop}
use Rattle.std.specs.List.{list_any}
use Rattle.known_facts.specs.Clean.{is_temporal_one, definitions_of}
use Rattle.known_facts.proofs.table.Table.has_temporal.Given as goal

abbrev pub invariant-loop-e : goal.invariant-loop-e
invariant-loop-e l = list_any (is_temporal_one (definitions_of l.self) l.numbers) l.es ≡ list_any (is_temporal_one (definitions_of l.self) l.numbers) (drop l.e-index l.es)
