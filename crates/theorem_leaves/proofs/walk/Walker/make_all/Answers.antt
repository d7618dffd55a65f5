use Rattle.std.proofs.Common.{◌+◌, map, drop, refl, sym, subst, ◌∙◌, arith, true, false}
use Rattle.known_facts.specs.Shown.{context_of}
use Rattle.known_facts.proofs.Growing.{grown-self, grown-then}
use Rattle.proof_leaves.specs.Shown.{step_of}
use Rattle.theorem_leaves.specs.Walks.{table, means, cite, entries}
use Rattle.proof_leaves.specs.Made.{Made}
use Rattle.theorem_leaves.proofs.Walking.{acts-next, acts-ended}
use Rattle.theorem_leaves.proofs.walk.Walker.make_all.Goals as goal

pub loop-step-init : goal.loop-step-init
loop-step-init c = (refl, grown-self _)

pub returns-then-not-branch-clause-acts : goal.returns-then-not-branch-clause-acts
returns-then-not-branch-clause-acts c =
    let w = c.args.self.now in
    sym c.loop-step.invariant.0
    ∙ acts-next (table w) (means w) (cite w) (entries w) c.args.stand.place c.args.stand.label c.args.steps.now c.loop-step.step-index (c.loop-step.step-index + 1) c.step-item.result c.args.stand.next (context_of c.loop-step.context) (context_of c.make.new.context) c.loop-step.leaves c.make.new.leaves false (omega arith) c.loop-step-test.true c.step-item.is (subst (λ b. Made (table w) c.args.stand.place (step_of c.args.stand.label c.step-item.result) (context_of c.loop-step.context) c.loop-step.leaves b (context_of c.make.new.context) c.make.new.leaves) c.if-not-branch.true c.in_ok-make.ensures.made)
    ∙ acts-ended (table w) (means w) (cite w) (entries w) c.args.stand.place (map (step_of c.args.stand.label) (drop (c.loop-step.step-index + 1) c.args.steps.now)) _

pub returns-then-not-branch-clause-grown : goal.returns-then-not-branch-clause-grown
returns-then-not-branch-clause-grown c = grown-then _ _ _ c.loop-step.invariant.1 c.in_ok-make.ensures.grown

pub loop-step-preserved : goal.loop-step-preserved
loop-step-preserved c =
    let w = c.args.self.now in (
      sym (acts-next (table w) (means w) (cite w) (entries w) c.args.stand.place c.args.stand.label c.args.steps.now c.loop-step.step-index (c.loop-step.step-index + 1) c.step-item.result c.args.stand.next (context_of c.loop-step.context) (context_of c.make.new.context) c.loop-step.leaves c.make.new.leaves true (omega arith) c.loop-step-test.true c.step-item.is (subst (λ b. Made (table w) c.args.stand.place (step_of c.args.stand.label c.step-item.result) (context_of c.loop-step.context) c.loop-step.leaves b (context_of c.make.new.context) c.make.new.leaves) c.if-not-branch.false c.in_ok-make.ensures.made))
          ∙ c.loop-step.invariant.0,
      grown-then _ _ _ c.loop-step.invariant.1 c.in_ok-make.ensures.grown,
    )
