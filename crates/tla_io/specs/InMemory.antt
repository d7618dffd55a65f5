-- The devices in memory: what they hold, which of their calls fail, and what a call leaves.
use Rattle.std.specs.Prelude.{◌≡◌, ℕ, ◌+◌, ◌-◌, ◌^◌, ◌<◌, ◌++◌, ◌==◌, min, List, [], take, length, map, Contains, Option, None, Some, Result, Ok, Err, Vec, if◌then◌else◌}
use Rattle.std.specs.Str.{bytes_eq}
use Rattle.std.specs.declared.alloc.Global.{Global}
use Rattle.tla_io.specs.Told.{Bytes}
use Rattle.tla_io.specs.declared.faults.Failed.{Failed}
use Rattle.tla_io.specs.declared.faults.ShelfFault.{ShelfFault}
use Rattle.tla_io.specs.declared.faults.ShelfFault.TheVariants as shelf
use Rattle.tla_io.specs.declared.faults.CacheFault.{CacheFault}
use Rattle.tla_io.specs.declared.faults.CacheFault.TheVariants as cache

-- The calls of a device: the numbers of those that fail, the number of the next call, and how many failed. The next
-- number is None after 2^64 calls, since no list of 64-bit numbers has it.
pub record Schedule : Type 0 where
  pub fails : List ℕ
  pub next : Option ℕ
  pub faults : ℕ

-- before the first call
abbrev pub schedule : List ℕ → Schedule
schedule fails = record { fails = fails; next = Some 0; faults = 0 }

-- the next call is listed as one that fails
abbrev pub FailsNext : Schedule → Type 0
FailsNext s = elim s.next [ None ↦ ⊥ | Some n ↦ Contains s.fails n ]

-- the number behind a call's
abbrev pub number_after : Option ℕ → Option ℕ
number_after None = None
number_after (Some n) = if n == 2 ^ 64 - 1 then None else Some (n + 1)

-- after a call that did not fail
abbrev pub called : Schedule → Schedule
called s = record s { next = number_after s.next }

-- after a call that failed
abbrev pub faulted : Schedule → Schedule
faulted s = record s { next = number_after s.next; faults = min (s.faults + 1) (2 ^ 64 - 1) }

-- a shelf in memory: its entries, and its calls
pub record Shelved : Type 0 where
  pub entries : List (Bytes × Bytes)
  pub calls : Schedule

-- names and contents as bytes
abbrev pub entries_of : List (Bytes × Vec ℕ Global) → List (Bytes × Bytes)
entries_of entries = map (λ entry. (entry.0, entry.1.items)) entries

-- a shelf after a fetch with this answer
abbrev pub after_fetch : {T : Type 0} → Shelved → Result T ShelfFault → Shelved
after_fetch s (Ok found) = record s { calls = called s.calls }
after_fetch s (Err shelf.Failed) = record s { calls = faulted s.calls }
after_fetch s (Err shelf.Memory) = record s { calls = called s.calls }

-- a cache file in memory: its one name, the content under it, and its calls
pub record Cached : Type 0 where
  pub file : Bytes
  pub content : Bytes
  pub calls : Schedule

-- the content under a name of which it tells
abbrev pub content_of : Cached → Bytes → Option Bytes
content_of c name = if bytes_eq name c.file then Some c.content else None

-- the content under any name: no bytes under those of which it does not tell
abbrev pub content_or_empty : Cached → Bytes → Bytes
content_or_empty c name = if bytes_eq name c.file then c.content else []

-- a cache file after a read with this answer
abbrev pub after_read : {T : Type 0} → Cached → Result T CacheFault → Cached
after_read c (Ok front) = record c { calls = called c.calls }
after_read c (Err cache.Failed) = record c { calls = faulted c.calls }
after_read c (Err cache.Memory) = record c { calls = called c.calls }

-- a cache file after a replace with this answer: bytes under another name are dropped
abbrev pub after_replace : {T : Type 0} → Cached → Bytes → Bytes → Result T Failed → Cached
after_replace c name bytes (Ok x) = record c { content = (if bytes_eq name c.file then bytes else c.content); calls = called c.calls }
after_replace c name bytes (Err fault) = record c { calls = faulted c.calls }

-- a sink in memory: the bytes taken, the room for all bytes, the most that one call takes, and its calls
pub record Sunk : Type 0 where
  pub taken : Bytes
  pub room : ℕ
  pub piece : ℕ
  pub calls : Schedule

-- how many bytes of a piece a call takes
abbrev pub portion : Sunk → Bytes → ℕ
portion s piece = min (length piece) (min s.piece (s.room - length s.taken))

-- nothing can be taken of a piece that is not empty: the room is full, or no call takes a byte
abbrev pub IsStuck : Sunk → Bytes → Type 0
IsStuck s piece = (portion s piece ≡ 0) × (0 < length piece)

-- a sink after a write with this answer
abbrev pub after_write : Sunk → Bytes → Result ℕ Failed → Sunk
after_write s piece (Ok n) = record s { taken = s.taken ++ take n piece; calls = called s.calls }
after_write s piece (Err fault) = record s { calls = faulted s.calls }
