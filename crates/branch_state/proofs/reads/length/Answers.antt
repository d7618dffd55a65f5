use Rattle.std.proofs.Common.{sym, ◌∙◌}
use Rattle.branch_state.specs.Parts.{core_of}
use Rattle.branch_state.proofs.EntryLaws.{entries_length}
use Rattle.branch_state.proofs.reads.length.Goals as goal

pub returns : goal.returns
returns c =
    let k = core_of c.args.parts.now in
    c.length.ensures ∙ sym (entries_length k.sets k.links k.book.now c.requires.room)
