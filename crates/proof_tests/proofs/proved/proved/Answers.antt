use Rattle.std.proofs.Common.{sym}
use Rattle.proof_tests.proofs.Checked.{facts_canonical, facts_closed, goal_closed}
use Rattle.proof_tests.proofs.proved.proved.Goals as goal

pub check-requires-clause-canonical_facts : goal.check-requires-clause-canonical_facts
check-requires-clause-canonical_facts c = facts_canonical c.args.canon.now (sym c.if-not-is_form.ensures)

pub check-requires-clause-closed_facts : goal.check-requires-clause-closed_facts
check-requires-clause-closed_facts c = facts_closed c.args.canon.now (sym c.if-not-is_form.ensures)

pub check-requires-clause-closed_goal : goal.check-requires-clause-closed_goal
check-requires-clause-closed_goal c = goal_closed c.args.canon.now (sym c.if-not-is_form.ensures)
