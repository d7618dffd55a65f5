use Rattle.std.proofs.Common.{length}
use Rattle.branch_state.specs.Parts.{shown}
use Rattle.instance_ranks.proofs.EntryLaws.{entry_below, entry_closed}
use Rattle.instance_ranks.proofs.entries.at_entry.Goals as goal

pub at_literal-requires-clause-within : goal.at_literal-requires-clause-within
at_literal-requires-clause-within c = entry_below (length c.args.bank.now) (shown c.args.parts.now).now c.args.i c.entry-item.result c.requires.known c.requires.within c.entry-item.ensures

pub at_universal-requires-clause-within : goal.at_universal-requires-clause-within
at_universal-requires-clause-within c = entry_below (length c.args.bank.now) (shown c.args.parts.now).now c.args.i c.entry-item.result c.requires.known c.requires.within c.entry-item.ensures

pub at_universal-requires-clause-closed : goal.at_universal-requires-clause-closed
at_universal-requires-clause-closed c = entry_closed c.args.bank.now (shown c.args.parts.now).now c.args.i c.entry-item.result c.requires.closed c.requires.within c.entry-item.ensures

pub at_subterms-requires-clause-within : goal.at_subterms-requires-clause-within
at_subterms-requires-clause-within c = entry_below (length c.args.bank.now) (shown c.args.parts.now).now c.args.i c.entry-item.result c.requires.known c.requires.within c.entry-item.ensures
