-- Laws of records.
use Rattle.std.specs.Prelude.{◌≡◌, ℕ, List}
use Rattle.proof_cache.specs.declared.record.Record.{Record}
use Rattle.cache_file.specs.Records.{AreRecords}

-- the records of lines are one list, and so is the number of those that are none
abbrev pub RecordsAreOne : Type 0
RecordsAreOne = (ls : List (List ℕ)) (rs qs : List Record) (n m : ℕ) → AreRecords ls rs n → AreRecords ls qs m → (rs ≡ qs) × (n ≡ m)
