use Rattle.std.proofs.Common.{◌≡◌, ◌++◌, ◌∙◌, OnOk, refl, ap, sym, subst, append-nil, append_assoc}
use Rattle.tla_ast.specs.declared.unit.Step.{out-Step}
use Rattle.plain_syntax.specs.Syntax.{proof_of}
use Rattle.usable_facts.specs.Definitions as spec
use Rattle.theorem_leaves.specs.Homes.{means, entries}
use Rattle.theorem_leaves.specs.Definitions as own
use Rattle.theorem_leaves.proofs.Walks.{next}
use Rattle.theorem_leaves.proofs.Defined.{in_steps_is, in_other_is}
use Rattle.theorem_leaves.proofs.home.Home.+proofs.Goals as goal

pub push_proof-returns-in-Steps : goal.push_proof-returns-in-Steps
push_proof-returns-in-Steps t c =
    let h = c.args.self.now in
    subst (λ x. OnOk c.push_steps.result (c.push_steps.new.found.items ≡ c.args.found.now.items ++ x))
    (ap (own.in_each h) c.as_slice.ensures ∙ in_steps_is h c.args.proof.now c.in-Steps.steps c.in-Steps.is) c.push_steps.ensures

pub push_proof-returns-in_default : goal.push_proof-returns-in_default
push_proof-returns-in_default t c =
    sym (append-nil c.args.found.now.items) ∙ ap (λ l. c.args.found.now.items ++ l) (in_other_is c.args.self.now c.args.proof.now c.in_default.not-Steps)

pub push_steps-loop-step-preserved : goal.push_steps-loop-step-preserved
push_steps-loop-step-preserved t c =
    let h = c.args.self.now in
    next (own.in_each h) (own.in_step h) (λ s ss. refl) c.args.steps.now c.loop-step.step-index c.step-item.result (c.args.found.now.items ++ own.in_each h c.args.steps.now) c.loop-step.found.items c.push_proof.new.found.items
    c.loop-step-test.true c.step-item.is
    (c.in_ok-push_proof.ensures ∙ ap (λ l. l ++ spec.in_proof (entries h) (means h) (proof_of (out-Step c.step-item.result).proof)) c.in_ok-push_kind.ensures ∙ append_assoc c.loop-step.found.items _ _)
    c.loop-step.invariant
