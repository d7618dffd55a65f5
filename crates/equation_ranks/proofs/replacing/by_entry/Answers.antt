use Rattle.std.proofs.Common.{◌≡◌, Bool, true, false, not, length, refl}
use Rattle.branch_state.specs.Parts.{shown}
use Rattle.equation_ranks.proofs.ClosingLaws.{entry_below}
use Rattle.equation_ranks.proofs.ReplaceLaws.{closed_at, tried_on, untried_after}
use Rattle.equation_ranks.proofs.replacing.by_entry.Goals as goal

pub sides_of-requires-clause-within : goal.sides_of-requires-clause-within
sides_of-requires-clause-within c = entry_below (length c.args.bank.now) (shown c.args.parts.now).now c.args.i c.entry-item.result c.requires.known c.requires.within c.entry-item.ensures

pub sides_of-requires-clause-closed : goal.sides_of-requires-clause-closed
sides_of-requires-clause-closed c = closed_at c.args.bank.now (shown c.args.parts.now).now c.args.i c.entry-item.result c.requires.closed c.requires.within c.entry-item.ensures

lives : (b : Bool) → not b ≡ false → b ≡ true
lives true e = refl
lives false e = cc

pub by_sides-requires-clause-before : goal.by_sides-requires-clause-before
by_sides-requires-clause-before c = λ k l m.
    let ts = c.args.bank.now in
    let t = untried_after c.args.i c.args.seen c.first_untried-start.result k c.first_untried-start.ensures l in
    let x = c.entry-item.result in
    tried_on ts (shown c.args.parts.now).now c.args.seen c.args.i x _ c.in-Some.sides c.requires.seen t.0 c.requires.within c.entry-item.ensures (lives x.live c.if-not-item.false) c.in_ok-sides.ensures.ok c.in-Some.is k t.1 m
