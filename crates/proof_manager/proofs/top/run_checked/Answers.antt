use Rattle.std.proofs.Common.{subst}
use Rattle.std.specs.Prelude.{List, Bool, Option, option_map}
use Rattle.tla_io.specs.Told.{Bytes}
use Rattle.status_report.specs.declared.table.ModuleIn.{ModuleIn}
use Rattle.proof_cache.specs.Records.{kept_for}
use Rattle.command_words.specs.Requests.{asked_by}
use Rattle.proof_manager.specs.Runs.{style_of}
use Rattle.proof_manager.specs.Caching.{Change}
use Rattle.proof_manager.specs.Causes.{Writes, read_in}
use Rattle.proof_manager.proofs.Reporting.{tells}
use Rattle.proof_manager.proofs.top.run_checked.Goals as goal

pub returns-in-Ok-judge_all-clause-report : goal.returns-in-Ok-judge_all-clause-report
returns-in-Ok-judge_all-clause-report g c =
    let a = asked_by c.args.request in
    let o = c.in-Ok-judge_all.outcome in
    let after = g.C.CacheFile.content c.write.new.cache in
    let taken : Change (Option Bytes) = record { before = g.K.Sink.taken c.args.out.now; after = g.K.Sink.taken c.write.new.out } in
    let ms : List ModuleIn × Bool = (o.judged.modules, o.judged.stopped) in
    let made = option_map (λ v. v.items) o.next in
    tells a (read_in c.args.checked.now) (kept_for c.in-Ok.records) o c.in-Ok-judge_all.ensures.0 (record { before = g.C.CacheFile.content c.args.cache.now; after = after }) taken c.report_without_memory.ensures c.in-Ok.ensures.kept
    c.in-Ok-judge_all.ensures.1 c.write.result
    (subst (λ b. Writes (style_of a) ms a.cache made (record { before = b; after = after }) taken c.write.result) c.in-Ok.ensures.same
    (subst (λ s. Writes s ms a.cache made (record { before = g.C.CacheFile.content c.kept.new.cache; after = after }) taken c.write.result) c.style-style.ensures c.write.ensures.report))
