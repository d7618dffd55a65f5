use Rattle.std.proofs.Common.{refl, ap, subst, map, ◌∙◌}
use Rattle.std.specs.List.{AllZip}
use Rattle.std.proofs.lemmas.Result.{IfOk-weaker}
use Rattle.cache_file.specs.Records.{IsRead, records_in}
use Rattle.cache_file.proofs.read.read_cache.Goals as goal

pub returns : goal.returns
returns g c =
    let os = c.in_ok-reads.reads.items in
    let cut = ap (map (λ l. l.now)) c.as_slice.ensures.value ∙ c.in_ok-lines.ensures in
    let read = subst (λ ls. AllZip IsRead ls os) cut c.in_ok-reads.ensures in
    IfOk-weaker c.keep_all.result _ _ (λ k h. (records_in os, (os, read, refl, h.skipped), h.keeps)) c.keep_all.ensures
