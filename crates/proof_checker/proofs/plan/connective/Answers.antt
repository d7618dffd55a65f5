use Rattle.std.proofs.Common.{◌≡◌, cond, Some, None, sym, subst, ap, ◌∙◌}
use Rattle.proof_checker.specs.Rules.{connective_rule}
use Rattle.proof_checker.specs.Plans.{Plans, plan_of}
use Rattle.proof_checker.specs.Sides.{seen}
use Rattle.term_bank.specs.Banks.{tree_at}
use Rattle.proof_checker.specs.declared.task.Plan.{Plan}
use Rattle.proof_checker.proofs.PlanLaws.{connective_plans}
use Rattle.proof_checker.proofs.plan.connective.Goals as goal

pub returns : goal.returns
returns c =
    let ts = c.args.bank.now in
    let e : c.when.result ≡ cond c.has_whole.result (Some (plan_of c.args.rule c.args.a c.args.b)) None = c.when.ensures ∙ ap (λ (p : Plan). cond c.has_whole.result (Some p) None) c.plan_of.ensures in
    subst (λ o. Plans ts (connective_rule c.args.rule (tree_at ts c.args.a) (tree_at ts c.args.b)) (seen ts c.args.left.now) (seen ts c.args.right.now) o) (sym e)
    (connective_plans ts c.args.rule c.args.a c.args.b (seen ts c.args.left.now) (seen ts c.args.right.now) c.has_whole.result c.requires.below.0 c.requires.below.1.0 c.has_whole.ensures)
