use Rattle.std.proofs.Common.{[], ◌∷◌, rules}
use Rattle.core_expr.specs.Nodes.{node_make}
use Rattle.seq_calculus.specs.Calculus.{Has}
use Rattle.term_bank.specs.Banks.{tree_at}
use Rattle.proof_checker.specs.Sides.{seen}
use Rattle.proof_checker.proofs.PlanLaws.{quantifier_fits, quantified_body}
use Rattle.proof_checker.proofs.plan.opened.Goals as goal

pub holds-requires-clause-form : goal.holds-requires-clause-form
holds-requires-clause-form c = quantifier_fits c.args.head c.requires.head

pub inst-requires-clause-one : goal.inst-requires-clause-one
inst-requires-clause-one c =
    let k : Has (seen c.args.bank.now c.args.side.now) (node_make c.args.head [] (tree_at c.args.bank.now c.args.p ∷ [])) = search (rules, c.holds.ensures, c.if-not-holds.false) in
    quantified_body c.args.bank.now c.args.side.now c.args.head (tree_at c.args.bank.now c.args.p) c.requires.head c.requires.formulas k
