-- What a call may do to a device's count of faults.
use Rattle.std.specs.Prelude.{◌≡◌, ℕ, ◌+◌, ◌-◌, ◌^◌, ◌≤◌, min, Result, Ok, Err}
use Rattle.tla_io.specs.declared.faults.Failed.{Failed}
use Rattle.tla_io.specs.declared.faults.ShelfFault.{ShelfFault}
use Rattle.tla_io.specs.declared.faults.ShelfFault.TheVariants as shelf
use Rattle.tla_io.specs.declared.faults.CacheFault.{CacheFault}
use Rattle.tla_io.specs.declared.faults.CacheFault.TheVariants as cache

-- the count has risen; at 2^64 - 1, past which it cannot go, it stays and counts as one that rose
abbrev pub Rose : ℕ → ℕ → Type 0
Rose before now = min (before + 1) (2 ^ 64 - 1) ≤ now

-- Failed comes only where the count rose, and any other answer leaves the count as it was
abbrev pub HasCause : {T : Type 0} → ℕ → ℕ → Result T Failed → Type 0
HasCause before now (Ok x) = now ≡ before
HasCause before now (Err fault) = (before ≤ now) × Rose before now

-- the same of a shelf, whose want of memory is no fault
abbrev pub HasShelfCause : {T : Type 0} → ℕ → ℕ → Result T ShelfFault → Type 0
HasShelfCause before now (Ok x) = now ≡ before
HasShelfCause before now (Err shelf.Failed) = (before ≤ now) × Rose before now
HasShelfCause before now (Err shelf.Memory) = now ≡ before

-- the same of a cache file, whose want of memory is no fault
abbrev pub HasCacheCause : {T : Type 0} → ℕ → ℕ → Result T CacheFault → Type 0
HasCacheCause before now (Ok x) = now ≡ before
HasCacheCause before now (Err cache.Failed) = (before ≤ now) × Rose before now
HasCacheCause before now (Err cache.Memory) = now ≡ before
