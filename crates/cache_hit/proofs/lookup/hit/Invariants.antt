use Rattle.std.proofs.Common.{◌≡◌, drop}
use Rattle.proof_cache.specs.Records.{kept_for}
use Rattle.cache_hit.specs.Hits.{hit}
use Rattle.cache_hit.proofs.lookup.hit.Given as goal

abbrev pub invariant-loop-proof : goal.invariant-loop-proof
invariant-loop-proof l = hit l.canon (drop l.proof-index l.kept) ≡ hit l.canon (kept_for l.cache l.canon)
