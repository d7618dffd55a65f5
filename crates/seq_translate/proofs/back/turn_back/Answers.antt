use Rattle.std.proofs.lemmas.Result.{on_ok_weaker}
use Rattle.proof_trees.specs.Machine.{State, resumed}
use Rattle.search_trace.specs.Traces.{moves_of}
use Rattle.seq_translate.specs.States.{IsState}
use Rattle.seq_translate.proofs.Cases.{shut_turned, one_turned, split_turned}
use Rattle.seq_translate.proofs.back.turn_back.Goals as goal

pub returns-in_ok-resume-in-Shut-clause-ok : goal.returns-in_ok-resume-in-Shut-clause-ok
returns-in_ok-resume-in-Shut-clause-ok g c =
    let ss = c.resume.new.seconds.items in
    let turns = c.args.turns.now in
    on_ok_weaker c.shut.result
    (λ shut ts s distinct all under h.
    shut_turned ts turns c.args.number c.args.turn.now s (λ (v : State). IsState ts c.shut.new.marks.items ss c.shut.new.w v) c.in-Shut.case c.in-Shut.entries c.in-Shut.next
    c.as_slice.result.now c.in-Shut.is c.as_slice.ensures.value under
    (λ below. shut ts ss (resumed (moves_of ts turns) c.in-Shut.next s) distinct below (c.in_ok-resume-in-Shut.ensures ts c.args.w.now s distinct all h)))
    c.shut.ensures.ok

pub returns-in-Alone-clause-ok : goal.returns-in-Alone-clause-ok
returns-in-Alone-clause-ok g c =
    let ss = c.args.seconds.now.items in
    on_ok_weaker c.one.result
    (λ one ts s distinct all under h.
    one_turned ts c.args.turns.now c.args.number c.args.turn.now s (λ (v : State). IsState ts c.one.new.marks.items ss c.one.new.w v) c.in-Alone.used c.in-Alone.added
    c.as_slice-in-Alone.result.now c.in-Alone.is c.as_slice-in-Alone.ensures.value under (λ used added. one ts ss s distinct used added h))
    c.one.ensures.ok

pub returns-in-Split-clause-ok : goal.returns-in-Split-clause-ok
returns-in-Split-clause-ok g c =
    on_ok_weaker c.split.result
    (λ split ts s distinct all under h.
    split_turned ts c.args.turns.now c.args.number c.args.turn.now s (λ (v : State). IsState ts c.split.new.marks.items c.split.new.seconds.items c.split.new.w v) c.in-Split.used
    c.in-Split.first c.in-Split.second c.as_slice-in-Split.result.now c.as_slice-in-Split-2.result.now c.in-Split.is c.as_slice-in-Split.ensures.value
    c.as_slice-in-Split-2.ensures.value under (λ used first second. split ts s distinct used first second h))
    c.split.ensures.ok
