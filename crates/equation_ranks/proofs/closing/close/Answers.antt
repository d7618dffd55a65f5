use Rattle.branch_state.specs.Parts.{shown}
use Rattle.equation_ranks.proofs.ClosingLaws.{none_open}
use Rattle.equation_ranks.proofs.closing.close.Goals as goal

pub close_from-requires-clause-before : goal.close_from-requires-clause-before
close_from-requires-clause-before c = none_open c.args.bank.now (shown c.args.parts.now).now
