use Rattle.std.proofs.Common.{option_map, subst, sym, ap}
use Rattle.proof_cache.specs.Records.{kept_for}
use Rattle.proof_manager.specs.Caching.{AreKept}
use Rattle.proof_manager.proofs.Keeping.{read-is}
use Rattle.proof_manager.proofs.kept.kept.Goals as goal

pub returns-in-Ok-clause-kept : goal.returns-in-Ok-clause-kept
returns-in-Ok-clause-kept g c =
    let held = g.C.CacheFile.content c.args.cache.now in
    subst (λ f. AreKept f held (kept_for c.in-Ok.records)) (sym (ap (option_map (λ s. s.now)) c.in-Some.is))
    (read-is (held c.in-Some.file.now) c.in_ok-bytes.bytes c.as_slice.result.now c.in-Ok.records c.as_slice.ensures.value c.in_ok-bytes.ensures.told c.in-Ok.ensures)
