use Rattle.std.proofs.Common.{[], sym, subst, IsTrue}
use Rattle.core_expr.specs.Nodes.{node_fits}
use Rattle.proof_checker.proofs.PlanLaws.{connective_fits}
use Rattle.proof_checker.proofs.plan.has_whole.Goals as goal

pub holds-requires-clause-form : goal.holds-requires-clause-form
holds-requires-clause-form c = subst (λ h. IsTrue (node_fits h [] 2)) (sym c.head_of.ensures) (connective_fits c.args.rule)

pub holds-requires-2-clause-form : goal.holds-requires-2-clause-form
holds-requires-2-clause-form c = subst (λ h. IsTrue (node_fits h [] 2)) (sym c.head_of-2.ensures) (connective_fits c.args.rule)
