use Rattle.std.proofs.Common.{◌+◌, map, reverse, fold, arith, refl, sym, ap, ◌∙◌}
use Rattle.tla_ast.specs.declared.unit.Step.{out-Step}
use Rattle.tla_ast.specs.declared.unit.StepKind.{StepKind}
use Rattle.plain_syntax.specs.Syntax.{term_of, terms_of, statement_of, proof_of, fact_of, move_of, each_group, each_def}
use Rattle.module_scope.specs.Scope.{seen}
use Rattle.module_scope.specs.Known.{book_of}
use Rattle.module_scope.specs.Names.{◌>>◌, alone, stated, chosen, each_alone, define, facts, move_names, proof_names, left, with_more}
use Rattle.module_scope.specs.Visits.{step_names}
use Rattle.module_scope.proofs.Visits.{because}
use Rattle.module_scope.proofs.Steps.{inside-is, folded, next}
use Rattle.module_scope.proofs.Proofs.{is-by, steps-walk, other-walk, unseen-is}
use Rattle.module_scope.proofs.walker.Walker.+proofs.Goals as goal

pub step-returns-in_ok-alone-in-Case : goal.step-returns-in_ok-alone-in-Case
step-returns-in_ok-alone-in-Case t c =
    let sub = proof_names (proof_of (out-Step c.args.step.now).proof) in
    let b = book_of c.args.self.now in
    because _ _ _ _ (ap (λ (k : StepKind). move_names (move_of k) sub b) c.in-Case.is ∙ ap sub (sym c.in_ok-alone-in-Case.ensures)) c.proof-in-Case.ensures

pub step-returns-in_ok-alone-in-Have : goal.step-returns-in_ok-alone-in-Have
step-returns-in_ok-alone-in-Have t c =
    let sub = proof_names (proof_of (out-Step c.args.step.now).proof) in
    let b = book_of c.args.self.now in
    because _ _ _ _ (ap (λ (k : StepKind). move_names (move_of k) sub b) c.in-Have.is ∙ ap sub (sym c.in_ok-alone-in-Have.ensures)) c.proof-in-Have.ensures

pub step-returns-in_ok-choose-in-Take : goal.step-returns-in_ok-choose-in-Take
step-returns-in_ok-choose-in-Take t c =
    let sub = proof_names (proof_of (out-Step c.args.step.now).proof) in
    let b = book_of c.args.self.now in
    because _ _ _ _ (ap (λ (k : StepKind). move_names (move_of k) sub b) c.in-Take.is ∙ ap sub (sym (c.in_ok-choose-in-Take.ensures ∙ ap (λ gs. chosen (each_group gs) b) c.as_slice-in-Take.ensures))) c.proof-in-Take.ensures

pub step-returns-in_ok-each_alone-in-Witness : goal.step-returns-in_ok-each_alone-in-Witness
step-returns-in_ok-each_alone-in-Witness t c =
    let sub = proof_names (proof_of (out-Step c.args.step.now).proof) in
    let b = book_of c.args.self.now in
    because _ _ _ _ (ap (λ (k : StepKind). move_names (move_of k) sub b) c.in-Witness.is ∙ ap sub (sym (c.in_ok-each_alone-in-Witness.ensures ∙ ap (λ ns. each_alone (terms_of (map term_of ns)) b) c.as_slice-in-Witness.ensures))) c.proof-in-Witness.ensures

pub step-returns-in_ok-define_all-in-Define : goal.step-returns-in_ok-define_all-in-Define
step-returns-in_ok-define_all-in-Define t c =
    let sub = proof_names (proof_of (out-Step c.args.step.now).proof) in
    let b = book_of c.args.self.now in
    because _ _ _ _ (ap (λ (k : StepKind). move_names (move_of k) sub b) c.in-Define.is ∙ ap sub (sym (c.in_ok-define_all-in-Define.ensures ∙ ap (λ ds. define (each_def ds) b) c.as_slice-in-Define.ensures))) c.proof-in-Define.ensures

pub step-returns-in_ok-facts-in-Add : goal.step-returns-in_ok-facts-in-Add
step-returns-in_ok-facts-in-Add t c =
    let sub = proof_names (proof_of (out-Step c.args.step.now).proof) in
    let b = book_of c.args.self.now in
    because _ _ _ _ (ap (λ (k : StepKind). move_names (move_of k) sub b) c.in-Add.is ∙ ap sub (sym (c.in_ok-facts-in-Add.ensures ∙ (λ i. facts (map fact_of (c.as_slice-in-Add.ensures i)) (c.as_slice-in-Add-2.ensures i) b)))) c.proof-in-Add.ensures

pub step-returns-in_ok-facts-in-Hide : goal.step-returns-in_ok-facts-in-Hide
step-returns-in_ok-facts-in-Hide t c =
    let sub = proof_names (proof_of (out-Step c.args.step.now).proof) in
    let b = book_of c.args.self.now in
    because _ _ _ _ (ap (λ (k : StepKind). move_names (move_of k) sub b) c.in-Hide.is ∙ ap sub (sym (c.in_ok-facts-in-Hide.ensures ∙ (λ i. facts (map fact_of (c.as_slice-in-Hide.ensures i)) (c.as_slice-in-Hide-2.ensures i) b)))) c.proof-in-Hide.ensures

pub step-returns-in-Qed : goal.step-returns-in-Qed
step-returns-in-Qed t c =
    let sub = proof_names (proof_of (out-Step c.args.step.now).proof) in
    let b = book_of c.args.self.now in
    because _ _ _ _ (ap (λ (k : StepKind). move_names (move_of k) sub b) c.in-Qed.is) c.proof-in-Qed.ensures

pub step-returns-in_ok-proof-in-Assert : goal.step-returns-in_ok-proof-in-Assert
step-returns-in_ok-proof-in-Assert t c =
    let sub = proof_names (proof_of (out-Step c.args.step.now).proof) in
    let b = book_of c.args.self.now in
    inside-is (stated (statement_of c.in-Assert.statement) >> sub) b (book_of c.proof.new.self) (book_of c.leave.new.self) c.mark-mark.result c.mark-mark.ensures
    (c.in_ok-proof-in-Assert.ensures ∙ ap sub c.in_ok-statement-in-Assert.ensures) c.leave.ensures
    ∙ sym (ap (λ (k : StepKind). move_names (move_of k) sub b) c.in-Assert.is)

pub step-returns-in_ok-proof-in-Suffices : goal.step-returns-in_ok-proof-in-Suffices
step-returns-in_ok-proof-in-Suffices t c =
    let sub = proof_names (proof_of (out-Step c.args.step.now).proof) in
    let b = book_of c.args.self.now in
    let d = book_of c.proof-in-Suffices.new.self in
    let more = reverse (map seen c.in_ok-names-in-Suffices.names.items) in
    because _ _ _ _ (ap (λ (k : StepKind). move_names (move_of k) sub b) c.in-Suffices.is
    ∙ sym (unseen-is (stated (statement_of c.in-Suffices.statement)) sub b (book_of c.statement-in-Suffices.new.self) (book_of c.withdraw.new.self) d (with_more more d) c.mark-mark-in-Suffices.result more
    c.mark-mark-in-Suffices.ensures c.in_ok-statement-in-Suffices.ensures c.in_ok-names-in-Suffices.ensures.left c.in_ok-names-in-Suffices.ensures.taken c.in_ok-proof-in-Suffices.ensures refl)) c.restore.ensures

pub step-returns-in_ok-proof-in-Pick : goal.step-returns-in_ok-proof-in-Pick
step-returns-in_ok-proof-in-Pick t c =
    let sub = proof_names (proof_of (out-Step c.args.step.now).proof) in
    let b = book_of c.args.self.now in
    let d = book_of c.proof-in-Pick.new.self in
    let more = reverse (map seen c.in_ok-names-in-Pick.names.items) in
    let t = term_of c.in-Pick.node in
    because _ _ _ _ (ap (λ (k : StepKind). move_names (move_of k) sub b) c.in-Pick.is
    ∙ sym (unseen-is (chosen (each_group c.in-Pick.groups) >> alone t) sub b (book_of c.alone.new.self) (book_of c.withdraw-in-Pick.new.self) d (with_more more d) c.mark-mark-in-Pick.result more
    c.mark-mark-in-Pick.ensures (c.in_ok-alone-in-Pick.ensures ∙ ap (alone t) (c.in_ok-choose-in-Pick.ensures ∙ ap (λ gs. chosen (each_group gs) b) c.as_slice.ensures))
    c.in_ok-names-in-Pick.ensures.left c.in_ok-names-in-Pick.ensures.taken c.in_ok-proof-in-Pick.ensures refl)) c.restore-in-Pick.ensures

pub steps-loop-step-preserved : goal.steps-loop-step-preserved
steps-loop-step-preserved t c =
    folded step_names _ (book_of c.loop-step.self) (book_of c.step.new.self) _ _ c.step-item.result c.loop-step.invariant
    (next c.args.steps.now c.loop-step.step-index (c.loop-step.step-index + 1) c.step-item.result (omega arith) c.loop-step-test.true c.step-item.is) c.in_ok-step.ensures

pub proof-returns-in-By : goal.proof-returns-in-By
proof-returns-in-By t c =
    because _ _ _ _ (ap (λ p. proof_names p (book_of c.args.self.now)) (is-by c.args.proof.now _ _ _ _ c.in-By.is)
    ∙ (λ i. facts (map fact_of (sym c.as_slice.ensures i)) (sym c.as_slice-in-By.ensures i) (book_of c.args.self.now))) c.facts.ensures

pub proof-returns-in_ok-steps-in-Steps : goal.proof-returns-in_ok-steps-in-Steps
proof-returns-in_ok-steps-in-Steps t c =
    c.leave.ensures ∙ (λ i. left (c.mark-mark.ensures i) ((c.in_ok-steps-in-Steps.ensures ∙ ap (fold step_names (book_of c.args.self.now)) c.as_slice-in-Steps.ensures) i)) ∙ sym (steps-walk c.args.proof.now _ (book_of c.args.self.now) c.in-Steps.is)

pub proof-returns-in_default : goal.proof-returns-in_default
proof-returns-in_default t c = other-walk c.args.proof.now (book_of c.args.self.now) c.in_default.not-By c.in_default.not-Steps
