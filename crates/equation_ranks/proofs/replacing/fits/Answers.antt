use Rattle.std.proofs.Common.{length}
use Rattle.branch_state.specs.Parts.{shown}
use Rattle.equation_ranks.proofs.ClosingLaws.{entry_below}
use Rattle.equation_ranks.proofs.replacing.fits.Goals as goal

pub same_term-requires : goal.same_term-requires
same_term-requires c = (c.requires.below.0, (entry_below (length c.args.bank.now) (shown c.args.parts.now).now c.args.i c.entry-item.result c.requires.known c.requires.within c.entry-item.ensures, tt))

pub occurs-requires-clause-start : goal.occurs-requires-clause-start
occurs-requires-clause-start c = entry_below (length c.args.bank.now) (shown c.args.parts.now).now c.args.i c.entry-item.result c.requires.known c.requires.within c.entry-item.ensures
