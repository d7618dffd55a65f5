use Rattle.std.proofs.Common.{subst, map, ap, ◌∙◌}
use Rattle.std.specs.Prelude.{string_bytes}
use Rattle.command_words.specs.Requests.{Asked, IsAsked, asked_by}
use Rattle.proof_manager.specs.Causes.{texts, EndsTold, WhereReported, IsJust, IsDecided}
use Rattle.proof_manager.proofs.Lines.{in_range}
use Rattle.proof_manager.proofs.top.run.Goals as goal

pub run_root-requires-after_bounds : goal.run_root-requires-after_bounds
run_root-requires-after_bounds g c κs bounds =
    in_range (map string_bytes c.as_slice.result.now) (asked_by c.in-Ok.request) c.in-Ok.ensures.asked

pub returns-in-Ok-clause-report : goal.returns-in-Ok-clause-report
returns-in-Ok-clause-report g c a h =
    let b = asked_by c.in-Ok.request in
    let asked = subst (λ ws. IsAsked (map string_bytes ws) b) c.as_slice.ensures.value c.in-Ok.ensures.asked in
    subst (λ x. EndsTold c.run_root.result (g.S.Shelf.folder c.args.shelf.now) x (record { before = g.C.CacheFile.content c.args.cache.now; after = g.C.CacheFile.content c.run_root.new.cache }) (record { before = g.K.Sink.taken c.args.out.now; after = g.K.Sink.taken c.run_root.new.out })) (c.asked_once.ensures (texts c.args.words.now.items) b a asked h) c.run_root.ensures.report

pub returns-in-Ok-clause-answers_justified : goal.returns-in-Ok-clause-answers_justified
returns-in-Ok-clause-answers_justified g c a h =
    let b = asked_by c.in-Ok.request in
    let asked = subst (λ ws. IsAsked (map string_bytes ws) b) c.as_slice.ensures.value c.in-Ok.ensures.asked in
    subst (WhereReported IsJust c.run_root.result (g.S.Shelf.folder c.args.shelf.now)) (c.asked_once.ensures (texts c.args.words.now.items) b a asked h) c.run_root.ensures.just

pub returns-in-Ok-clause-small_decided : goal.returns-in-Ok-clause-small_decided
returns-in-Ok-clause-small_decided g c a h =
    let b = asked_by c.in-Ok.request in
    let asked = subst (λ ws. IsAsked (map string_bytes ws) b) c.as_slice.ensures.value c.in-Ok.ensures.asked in
    subst (WhereReported IsDecided c.run_root.result (g.S.Shelf.folder c.args.shelf.now)) (c.asked_once.ensures (texts c.args.words.now.items) b a asked h) c.run_root.ensures.decided

pub returns-in-Ok-clause-cache_unasked : goal.returns-in-Ok-clause-cache_unasked
returns-in-Ok-clause-cache_unasked g c a h none =
    let b = asked_by c.in-Ok.request in
    let asked = subst (λ ws. IsAsked (map string_bytes ws) b) c.as_slice.ensures.value c.in-Ok.ensures.asked in
    c.run_root.ensures.unasked (ap (λ (x : Asked). x.cache) (c.asked_once.ensures (texts c.args.words.now.items) b a asked h) ∙ none)
