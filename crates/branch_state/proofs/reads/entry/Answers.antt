use Rattle.std.proofs.Common.{◌<◌, length, ap, sym, ◌∙◌, arith}
use Rattle.branch_state.specs.Shown.{item_of}
use Rattle.branch_state.specs.Parts.{core_of}
use Rattle.branch_state.proofs.EntryLaws.{entries_at, entries_length}
use Rattle.branch_state.proofs.reads.entry.Goals as goal

pub entry-requires : goal.entry-requires
entry-requires c =
    let k = core_of c.args.parts.now in
    omega (arith, c.requires.within, entries_length k.sets k.links k.book.now c.requires.held.room)

pub returns : goal.returns
returns c =
    let k = core_of c.args.parts.now in
    let l : c.args.i < length k.book.now = omega (arith, c.requires.within, entries_length k.sets k.links k.book.now c.requires.held.room) in
    c.entry.ensures ∙ sym (ap item_of (entries_at k.sets k.links k.book.now c.args.i c.requires.held.room l))
