-- What is read of the cache's file is what it keeps.
use Rattle.std.specs.Prelude.{◌≡◌, ℕ, List, Option, Some, None, Ok, Vec}
use Rattle.std.specs.declared.alloc.Global.{Global}
use Rattle.std.proofs.Common.{subst, ◌∙◌}
use Rattle.tla_io.specs.Told.{Bytes, ReadsFront}
use Rattle.proof_cache.specs.declared.record.Record.{Record}
use Rattle.proof_cache.specs.Records.{Kept, Keeps, kept_for}
use Rattle.cache_file.specs.Lines.{lines_of}
use Rattle.cache_file.specs.Records.{AreRecords}
use Rattle.proof_manager.specs.Caching.{AreIn, read_at_most}

pub read-is : (told : Option Bytes) (v : Vec ℕ Global) (bytes : Bytes) (k : Kept) → bytes ≡ v.items → ReadsFront told read_at_most (Ok v) → ((rs : List Record) × AreRecords (lines_of bytes) rs k.skipped × Keeps k rs) → AreIn told (kept_for k)
read-is None v bytes k e h r = tt
read-is (Some content) v bytes k e h r = (r.0, k.skipped, subst (λ b. AreRecords (lines_of b) r.0 k.skipped) (e ∙ h) r.1, r.2)
