use Rattle.core_expr.specs.Tree.{not_}
use Rattle.term_bank.specs.Banks.{tree_at}
use Rattle.branch_state.specs.Parts.{shown}
use Rattle.branch_values.proofs.Reasoning.{absent_has}
use Rattle.branch_values.proofs.reason.standing_denial.Goals as goal

pub returns-in-None : goal.returns-in-None
returns-in-None c = absent_has c.args.bank.now (shown c.args.parts.now).now (not_ (tree_at c.args.bank.now c.args.i)) c.requires.known c.in-None.ensures.none
