use Rattle.std.proofs.Common.{◌<◌, length, ap}
use Rattle.branch_state.specs.Parts.{shown}
use Rattle.branch_book.specs.declared.item.Item.{Item}
use Rattle.equation_ranks.proofs.ClosingLaws.{some_of, paired_has}
use Rattle.equation_ranks.proofs.closing.pair.Goals as goal

pub returns-in_ok-entries-in-Some : goal.returns-in_ok-entries-in-Some
returns-in_ok-entries-in-Some c = λ ts l a.
    let es = (shown c.args.parts.now).now in
    let j = c.in-Some.place in
    let m = some_of (λ j. j < length es) c.args.place j c.requires.within c.in-Some.is in
    paired_has ts es c.args.clash c.args.f j c.entry.result.formula c.args.place c.in_ok-entries-in-Some.entries l a m c.in-Some.is (ap (λ (x : Item). x.formula) c.entry.ensures) c.in_ok-entries-in-Some.ensures.items
