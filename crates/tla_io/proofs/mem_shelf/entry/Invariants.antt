use Rattle.std.proofs.Common.{◌≡◌, drop}
use Rattle.tla_io.specs.InMemory.{entries_of}
use Rattle.tla_io.specs.Told.{folder_of}
use Rattle.tla_io.proofs.mem_shelf.entry.Given as goal

-- the entries before this one have other names
abbrev pub invariant-loop-entry : goal.invariant-loop-entry
invariant-loop-entry l = folder_of (entries_of (drop l.entry-index l.entries)) l.name ≡ folder_of (entries_of l.entries) l.name
