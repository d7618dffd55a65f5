use Rattle.proof_checker.proofs.SideLaws.{AreFormulas-extend}
use Rattle.proof_checker.proofs.PlanLaws.{some_left_plans}
use Rattle.proof_checker.proofs.plan.some_left.Goals as goal

pub opened-requires-clause-formulas : goal.opened-requires-clause-formulas
opened-requires-clause-formulas c = AreFormulas-extend c.args.bank.now c.chosen.new.bank c.args.left.now.trail c.chosen.ensures.extends c.requires.formulas

pub returns-clause-ok : goal.returns-clause-ok
returns-clause-ok c = λ g. rw c.left_plan.ensures (some_left_plans c.args.bank.now c.chosen.new.bank c.opened.new.bank c.args.left.now c.args.p c.in_ok-t.t g _ c.chosen.ensures.extends c.requires.formulas c.requires.below.0 c.in_ok-t.ensures.ok c.in_ok-opened.ensures.ok)
