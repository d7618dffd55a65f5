use Rattle.std.proofs.Common.{◌<◌, length, map, ap, sym, subst, ◌∙◌, arith}
use Rattle.std.proofs.lemmas.List.{take-map, length-map}
use Rattle.branch_state.specs.Shown.{all_added}
use Rattle.branch_state.specs.Parts.{core_of, shown_of, wait_of, waiting, AreClassed}
use Rattle.branch_state.proofs.HeldLaws.{back_goal, back_mark, IsBack}
use Rattle.branch_state.proofs.parts.reopen.Goals as goal

pub take_back-requires : goal.take_back-requires
take_back-requires c =
    let k = core_of c.args.parts.now in
    let n : c.args.at < length k.waits = omega (arith, c.requires.within, length-map k.waits (waiting k.book k.links k.sets)) in
    back_mark k c.args.at (wait_of c.take_waiting-waiting.result) c.requires.held n c.take_waiting-waiting.ensures.waiting

pub add_all-requires : goal.add_all-requires
add_all-requires c =
    let k = core_of c.args.parts.now in
    let w = wait_of c.take_waiting-waiting.result in
    let n : c.args.at < length k.waits = omega (arith, c.requires.within, length-map k.waits (waiting k.book k.links k.sets)) in
    let e = ap (map wait_of) c.take_waiting-waiting.ensures.waits ∙ sym (take-map wait_of c.args.at c.args.parts.now.waits.items) in
    let b : IsBack k c.args.at (core_of c.take_back.new.parts) w = back_goal k (core_of c.take_back.new.parts) c.args.at (map wait_of c.take_waiting-waiting.new.waits.items) w c.requires.held n e c.take_waiting-waiting.ensures.waiting c.take_back.ensures in
    record { held = b.0; classed = subst AreClassed (sym c.deref.ensures.value) b.2; needs = b.1 }

pub returns-clause-ok : goal.returns-clause-ok
returns-clause-ok c =
    let k = core_of c.args.parts.now in
    let w = wait_of c.take_waiting-waiting.result in
    let n : c.args.at < length k.waits = omega (arith, c.requires.within, length-map k.waits (waiting k.book k.links k.sets)) in
    let e = ap (map wait_of) c.take_waiting-waiting.ensures.waits ∙ sym (take-map wait_of c.args.at c.args.parts.now.waits.items) in
    let b : IsBack k c.args.at (core_of c.take_back.new.parts) w = back_goal k (core_of c.take_back.new.parts) c.args.at (map wait_of c.take_waiting-waiting.new.waits.items) w c.requires.held n e c.take_waiting-waiting.ensures.waiting c.take_back.ensures in
    (w.sets, c.in_ok-add_all.ensures.ok ∙ ap (λ ns. all_added (shown_of (core_of c.take_back.new.parts)) ns w.needs) c.deref.ensures.value ∙ b.3)
