use Rattle.std.proofs.Common.{◌<◌, ◌≤◌, length, arith}
use Rattle.branch_state.specs.Parts.{shown}
use Rattle.equation_ranks.proofs.ReplaceLaws.{entry_replaces, none_replaces, all_tried}
use Rattle.equation_ranks.proofs.replacing.oldest_replacement.Goals as goal

pub returns-in-Some-clause-ok : goal.returns-in-Some-clause-ok
returns-in-Some-clause-ok c =
    let es = (shown c.args.parts.now).now in
    let l : c.loop-i.i < length es = omega (arith, c.loop-i-test.true, c.length-i-end.ensures) in
    entry_replaces c.args.bank.now es c.loop-i.i c.in-Some.replacement _ l c.loop-i.invariant.before c.in_ok-replacement.ensures.ok c.in-Some.is

pub returns-clause-ok : goal.returns-clause-ok
returns-clause-ok c =
    let es = (shown c.args.parts.now).now in
    let l : length es ≤ c.loop-i.i = omega (arith, c.loop-i-test.false, c.length-i-end.ensures) in
    none_replaces c.args.bank.now es c.loop-i.i l c.loop-i.invariant.before

pub returns-then-seen-length-clause-ok : goal.returns-then-seen-length-clause-ok
returns-then-seen-length-clause-ok c =
    let es = (shown c.args.parts.now).now in
    let l : length es ≤ c.args.seen = omega (arith, c.if-seen-length.true, c.length.ensures) in
    all_tried c.args.bank.now es c.args.seen l c.requires.seen
