use Rattle.proof_checker.proofs.SideLaws.{AreFormulas-extend}
use Rattle.proof_checker.proofs.PlanLaws.{all_right_plans}
use Rattle.proof_checker.proofs.plan.all_right.Goals as goal

pub opened-requires-clause-formulas : goal.opened-requires-clause-formulas
opened-requires-clause-formulas c = AreFormulas-extend c.args.bank.now c.chosen_against.new.bank c.args.right.now.trail c.chosen_against.ensures.extends c.requires.formulas

pub returns-clause-ok : goal.returns-clause-ok
returns-clause-ok c = λ g. rw c.right_plan.ensures (all_right_plans c.args.bank.now c.chosen_against.new.bank c.opened.new.bank c.args.right.now c.args.p c.in_ok-t.t g _ c.chosen_against.ensures.extends c.requires.formulas c.requires.below.0 c.in_ok-t.ensures.ok c.in_ok-opened.ensures.ok)
