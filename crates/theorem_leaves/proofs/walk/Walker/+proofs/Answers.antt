use Rattle.std.proofs.Common.{List, ◌++◌, map, arith, ◌+◌, refl, ap, sym, subst, ◌∙◌, true, false, drop}
use Rattle.std.specs.Prelude.{Some, None}
use Rattle.std.proofs.lemmas.List.{drop_all}
use Rattle.plain_syntax.specs.Plain.{Proof as plain}
use Rattle.plain_syntax.specs.Plain.Proof.{by_facts}
use Rattle.proof_contexts.specs.declared.leaf.Leaf.{Leaf}
use Rattle.plain_syntax.specs.Syntax.{fact_of}
use Rattle.proof_contexts.specs.Contexts.{after}
use Rattle.proof_contexts.specs.Leaves.{leaves}
use Rattle.known_facts.specs.Shown.{context_of}
use Rattle.known_facts.specs.Grown.{Grown}
use Rattle.known_facts.proofs.Growing.{grown-self, grown-then}
use Rattle.proof_leaves.specs.Shown.{claim_of}
use Rattle.usable_facts.specs.Proofs.{proof_of}
use Rattle.theorem_leaves.specs.Visits.{visit_all, finished}
use Rattle.theorem_leaves.specs.Visits.State.{going}
use Rattle.theorem_leaves.specs.Walks.{table, means, cite, entries, proof_at, MakesAll, Visits}
use Rattle.theorem_leaves.proofs.Walking.{claimed-acts}
use Rattle.theorem_leaves.proofs.Stepping.{on-ok, step-made, step-claimed, visits-next, none-of}
use Rattle.theorem_leaves.proofs.Proofs.{is-missing, is-obvious, is-omitted, is-by, is-steps, steps-leaves, visits-ended}
use Rattle.theorem_leaves.proofs.walk.Walker.+proofs.Goals as goal

pub claim-returns-clause-acts : goal.claim-returns-clause-acts
claim-returns-clause-acts t c =
    let w = c.args.self.now in
    let own = proof_at w c.args.stand.place c.args.stand.first c.args.own.now in
    let back = c.leave.ensures (claim_of c.args.stand.label c.args.claim own) (context_of c.args.context.now) c.in_ok-entered.ensures.entered
    (λ defs. c.in_ok-proof.ensures.kept ∙ c.in_ok-entered.ensures.inside own defs) in
    on-ok c.conclude.result
    (λ h. claimed-acts (table w) (means w) (cite w) (entries w) c.args.stand.place c.args.stand.label c.args.claim own c.args.stand.next (context_of c.args.context.now) (context_of c.enter.new.context) (context_of c.conclude.new.context)
    c.args.leaves.now c.proof.new.leaves (c.in_ok-entered.ensures.inside own (table w)) c.in_ok-proof.ensures.leaves
    (ap (λ x. after (table w) (claim_of c.args.stand.label c.args.claim own) x) (sym back) ∙ h own (table w)))
    c.conclude.ensures.after

pub claim-returns-clause-grown : goal.claim-returns-clause-grown
claim-returns-clause-grown t c =
    let own = proof_at c.args.self.now c.args.stand.place c.args.stand.first c.args.own.now in
    let back = c.leave.ensures (claim_of c.args.stand.label c.args.claim own) (context_of c.args.context.now) c.in_ok-entered.ensures.entered
    (λ defs. c.in_ok-proof.ensures.kept ∙ c.in_ok-entered.ensures.inside own defs) in
    on-ok c.conclude.result (subst (λ x. Grown x.known (context_of c.conclude.new.context).known) back) c.conclude.ensures.grown

pub proof-returns-in-Missing-clause-leaves : goal.proof-returns-in-Missing-clause-leaves
proof-returns-in-Missing-clause-leaves t c =
    let w = c.args.self.now in
    on-ok c.missing.result
    (λ h. h (table w) (context_of c.args.context.now) ∙ ap (λ x. c.args.leaves.now ++ leaves (table w) (proof_of (means w) (cite w) (entries w) c.args.place c.args.first x) (context_of c.args.context.now)) (sym (is-missing c.args.proof.now c.in-Missing.is)))
    c.missing.ensures

pub proof-returns-in-Obvious-clause-leaves : goal.proof-returns-in-Obvious-clause-leaves
proof-returns-in-Obvious-clause-leaves t c =
    let w = c.args.self.now in
    on-ok c.obvious.result
    (λ h. h ∙ ap (λ x. c.args.leaves.now ++ leaves (table w) (proof_of (means w) (cite w) (entries w) c.args.place c.args.first x) (context_of c.args.context.now)) (sym (is-obvious c.args.proof.now c.in-Obvious.at c.in-Obvious.is)))
    c.obvious.ensures

pub proof-returns-in-Omitted-clause-leaves : goal.proof-returns-in-Omitted-clause-leaves
proof-returns-in-Omitted-clause-leaves t c =
    let w = c.args.self.now in
    on-ok c.omitted.result
    (λ h. h (table w) (context_of c.args.context.now) ∙ ap (λ x. c.args.leaves.now ++ leaves (table w) (proof_of (means w) (cite w) (entries w) c.args.place c.args.first x) (context_of c.args.context.now)) (sym (is-omitted c.args.proof.now c.in-Omitted.at c.in-Omitted.is)))
    c.omitted.ensures

pub proof-returns-in-By-clause-leaves : goal.proof-returns-in-By-clause-leaves
proof-returns-in-By-clause-leaves t c =
    let w = c.args.self.now in
    let l : plain → List Leaf = λ x. c.args.leaves.now ++ leaves (table w) (proof_of (means w) (cite w) (entries w) c.args.place c.args.first x) (context_of c.args.context.now) in
    on-ok c.by.result
    (λ h. h ∙ (λ i. l (by_facts c.in-By.at c.in-By.only (map fact_of (c.as_slice.ensures i)) (c.as_slice-in-By.ensures i))) ∙ ap l (sym (is-by c.args.proof.now c.in-By.at c.in-By.only _ _ c.in-By.is)))
    c.by.ensures

pub proof-returns-in_ok-steps-in-Steps-clause-leaves : goal.proof-returns-in_ok-steps-in-Steps-clause-leaves
proof-returns-in_ok-steps-in-Steps-clause-leaves t c =
    let w = c.args.self.now in
    let ctx = context_of c.args.context.now in
    c.in_ok-steps-in-Steps.ensures.visits
    ∙ (λ i. finished c.args.place (visit_all (table w) (means w) (cite w) (entries w) (c.as_slice-in-Steps.ensures i) (going c.args.first ctx c.args.leaves.now)))
    ∙ sym (steps-leaves (table w) (means w) (cite w) (entries w) c.in-Steps.steps c.args.place c.args.first ctx c.args.leaves.now)
    ∙ ap (λ x. c.args.leaves.now ++ leaves (table w) (proof_of (means w) (cite w) (entries w) c.args.place c.args.first x) ctx) (sym (is-steps c.args.proof.now c.in-Steps.steps c.in-Steps.is))

pub proof-returns-in_ok-steps-in-Steps-clause-kept : goal.proof-returns-in_ok-steps-in-Steps-clause-kept
proof-returns-in_ok-steps-in-Steps-clause-kept t c = c.restore.ensures (context_of c.args.context.now) c.in_ok-saved-in-Steps.ensures c.in_ok-steps-in-Steps.ensures.grown

pub step-returns-in_ok-proof-in-Qed-clause-grown : goal.step-returns-in_ok-proof-in-Qed-clause-grown
step-returns-in_ok-proof-in-Qed-clause-grown t c = subst (λ x. Grown (context_of c.args.context.now).known x.known) (sym c.in_ok-proof-in-Qed.ensures.kept) (grown-self _)

pub step-returns-then-not-branch-clause-visits : goal.step-returns-then-not-branch-clause-visits
step-returns-then-not-branch-clause-visits t c =
    step-made c.args.self.now c.args.step.now c.args.number c.in_ok-stand.stand c.in_ok-written.field-0 c.in-Moves.steps c.as_slice.result.now false (context_of c.args.context.now) (context_of c.make_all.new.context) c.args.leaves.now c.make_all.new.leaves
    c.in_ok-stand.ensures c.in-Moves.is c.as_slice.ensures c.in_ok-written.ensures.ends c.in_ok-written.ensures.acts
    (subst (λ b. MakesAll c.args.self.now c.in_ok-stand.stand c.as_slice.result.now (context_of c.args.context.now) c.args.leaves.now b (context_of c.make_all.new.context) c.make_all.new.leaves) c.if-not-branch.true c.in_ok-make_all-in-Moves.ensures.acts)

pub step-returns-in_ok-claim-in-Claimed-clause-visits : goal.step-returns-in_ok-claim-in-Claimed-clause-visits
step-returns-in_ok-claim-in-Claimed-clause-visits t c =
    step-claimed c.args.self.now c.args.step.now c.args.number c.in_ok-stand.stand c.in_ok-written.field-0 c.in-Claimed.claim _ _ _ _ c.in_ok-stand.ensures c.in-Claimed.is c.in_ok-written.ensures.ends c.in_ok-written.ensures.acts c.in_ok-claim-in-Claimed.ensures.acts

pub step-returns-else-not-branch-clause-visits : goal.step-returns-else-not-branch-clause-visits
step-returns-else-not-branch-clause-visits t c =
    step-made c.args.self.now c.args.step.now c.args.number c.in_ok-stand.stand c.in_ok-written.field-0 c.in-Moves.steps c.as_slice.result.now true (context_of c.args.context.now) (context_of c.make_all.new.context) c.args.leaves.now c.make_all.new.leaves
    c.in_ok-stand.ensures c.in-Moves.is c.as_slice.ensures c.in_ok-written.ensures.ends c.in_ok-written.ensures.acts
    (subst (λ b. MakesAll c.args.self.now c.in_ok-stand.stand c.as_slice.result.now (context_of c.args.context.now) c.args.leaves.now b (context_of c.make_all.new.context) c.make_all.new.leaves) c.if-not-branch.false c.in_ok-make_all-in-Moves.ensures.acts)

pub steps-loop-step-init : goal.steps-loop-step-init
steps-loop-step-init t c = (refl, grown-self _)

pub steps-returns-in_default-clause-visits : goal.steps-returns-in_default-clause-visits
steps-returns-in_default-clause-visits t c =
    let w = c.args.self.now in
    let j = c.loop-step.step-index + 1 in
    let next = visits-next w c.args.steps.now c.loop-step.step-index j c.step-item.result c.loop-step.number None (context_of c.loop-step.context) (context_of c.step.new.context) c.loop-step.leaves c.step.new.leaves (omega arith) c.loop-step-test.true c.step-item.is
    (subst (λ o. Visits w c.step-item.result c.loop-step.number (context_of c.loop-step.context) c.loop-step.leaves o (context_of c.step.new.context) c.step.new.leaves) (none-of c.in_ok-next.field-0 c.in_default.not-Some) c.in_ok-next.ensures.visits) in
    sym (ap (finished c.args.place) (sym c.loop-step.invariant.0 ∙ next ∙ visits-ended (table w) (means w) (cite w) (entries w) (drop j c.args.steps.now) c.step.new.leaves))

pub steps-returns-in_default-clause-grown : goal.steps-returns-in_default-clause-grown
steps-returns-in_default-clause-grown t c = grown-then _ _ _ c.loop-step.invariant.1 c.in_ok-next.ensures.grown

pub steps-loop-step-preserved : goal.steps-loop-step-preserved
steps-loop-step-preserved t c =
    let w = c.args.self.now in (
      sym (visits-next w c.args.steps.now c.loop-step.step-index (c.loop-step.step-index + 1) c.step-item.result c.loop-step.number (Some c.in-Some.next) (context_of c.loop-step.context) (context_of c.step.new.context) c.loop-step.leaves c.step.new.leaves (omega arith) c.loop-step-test.true c.step-item.is
          (subst (λ o. Visits w c.step-item.result c.loop-step.number (context_of c.loop-step.context) c.loop-step.leaves o (context_of c.step.new.context) c.step.new.leaves) c.in-Some.is c.in_ok-next.ensures.visits))
          ∙ c.loop-step.invariant.0,
      grown-then _ _ _ c.loop-step.invariant.1 c.in_ok-next.ensures.grown,
    )

pub steps-returns-clause-visits : goal.steps-returns-clause-visits
steps-returns-clause-visits t c =
    let w = c.args.self.now in
    let here = going c.loop-step.number (context_of c.loop-step.context) c.loop-step.leaves in
    on-ok c.missing.result
    (λ h. h (table w) (context_of c.loop-step.context)
    ∙ ap (finished c.args.place) (ap (λ xs. visit_all (table w) (means w) (cite w) (entries w) xs here) (sym (drop_all c.loop-step.step-index c.args.steps.now c.loop-step-test.false)) ∙ c.loop-step.invariant.0))
    c.missing.ensures
