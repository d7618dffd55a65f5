use Rattle.known_facts.specs.Clean.{definitions_of}
use Rattle.known_facts.specs.Shown.{context_of}
use Rattle.proof_leaves.specs.Shown.{step_of}
use Rattle.proof_leaves.proofs.Steps.{goes_grown}
use Rattle.proof_leaves.proofs.making.make.Goals as goal

pub returns-then-branch-clause-grown : goal.returns-then-branch-clause-grown
returns-then-branch-clause-grown c =
    goes_grown (definitions_of c.args.table.now) (step_of c.args.label c.args.step.now) (context_of c.args.context.now) c.in_ok-act.field-0 (context_of c.act.new.context) c.in_ok-act.ensures.goes

pub returns-clause-grown : goal.returns-clause-grown
returns-clause-grown c =
    goes_grown (definitions_of c.args.table.now) (step_of c.args.label c.args.step.now) (context_of c.args.context.now) c.in_ok-act.field-0 (context_of c.act.new.context) c.in_ok-act.ensures.goes
