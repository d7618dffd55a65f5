use Rattle.std.proofs.Common.{◌-◌, length, refl, arith}
use Rattle.seq_translate.proofs.Ran.{run_under, run_told, run_step}
use Rattle.seq_translate.proofs.run.run.Goals as goal

pub turn_back-requires-clause-under : goal.turn_back-requires-clause-under
turn_back-requires-clause-under g c =
    let l = c.loop-done in
    let turns = c.args.turns.now in
    run_under c.args.w.now.trees turns l.marks.items l.seconds.items l.w l.done (length turns - 1 - l.done) c.index-turns-place.result (omega arith) c.index-turns-place.is
    c.requires.under l.invariant

pub turn_back-requires-clause-told : goal.turn_back-requires-clause-told
turn_back-requires-clause-told g c =
    let l = c.loop-done in
    let turns = c.args.turns.now in
    run_told c.args.w.now.trees turns l.marks.items l.seconds.items l.w l.done (length turns - 1 - l.done) c.index-turns-place.result (omega arith) c.index-turns-place.is
    c.requires.under c.requires.told l.invariant

pub loop-done-preserved : goal.loop-done-preserved
loop-done-preserved g c =
    let l = c.loop-done in
    let ts = c.args.w.now.trees in
    let turns = c.args.turns.now in
    let v = c.turn_back.new in
    run_step ts turns l.marks.items v.marks.items l.seconds.items v.seconds.items l.w v.w l.done (length turns - 1 - l.done) c.index-turns-place.result (omega arith) refl
    c.index-turns-place.is c.requires.under l.invariant (λ s below h. c.in_ok-turn_back.ensures.ok ts s c.requires.distinct c.requires.under below h)
