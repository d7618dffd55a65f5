use Rattle.std.proofs.Common.{◌≡◌, ◌<◌, length, get_or, ap, sym, ◌∙◌, subst, ◌++◌, [], ◌∷◌}
use Rattle.std.proofs.lemmas.Result.{on_ok_weaker}
use Rattle.text_writer.specs.declared.task.Task.TheVariants.{Finish}
use Rattle.std.proofs.lemmas.List.{get_or_default}
use Rattle.text_writer.specs.Tasks.{no_step, step_at, state, act, acts, step_of, visits}
use Rattle.text_writer.proofs.StepLaws.{step-is, waits, waits-below}
use Rattle.text_writer.proofs.proof.turn.Goals as goal
use Rattle.text_writer.proofs.proof.turn.Goals.{After-wait_for}

within : (c : After-wait_for) → c.in-Visit.i < length c.args.proof.now.steps
within c = subst (λ t. step_of t < length c.args.proof.now.steps) c.in-Visit.is c.requires.task

premises : (c : After-wait_for) → c.as_slice.result.now ≡ (step_at c.args.proof.now c.in-Visit.i).premises
premises c =
    c.as_slice.ensures ∙ ap (λ ss. (get_or ss c.in-Visit.i c.index-steps-i.result).premises) c.steps.ensures.steps
    ∙ ap (λ s. s.premises) (get_or_default c.args.proof.now.steps c.in-Visit.i c.index-steps-i.result no_step (within c))

pub returns-in-Visit-clause-entered : goal.returns-in-Visit-clause-entered
returns-in-Visit-clause-entered c =
    let l = c.args.proof.now in
    let a = state c.args.made.now.growing.table.keys c.args.made.now.steps.items c.args.made.now.places.items in
    let d = (goal.at.returns-in-Visit-clause-entered c).After-wait_for in
    on_ok_weaker c.wait_for.result
    (λ e. waits l c.in-Visit.i a c.args.tasks.now.items c.wait_for.new.tasks.items c.steps.ensures.lists (within d) (e ∙ ap (λ is. (c.args.tasks.now.items ++ Finish c.in-Visit.i ∷ []) ++ visits is) (premises d)) ∙ ap (λ t. acts l c.args.tasks.now.items (act l t a)) (sym c.in-Visit.is))
    c.wait_for.ensures

pub returns-in-Visit-clause-tasks : goal.returns-in-Visit-clause-tasks
returns-in-Visit-clause-tasks c =
    let l = c.args.proof.now in
    let d = (goal.at.returns-in-Visit-clause-tasks c).After-wait_for in
    on_ok_weaker c.wait_for.result
    (λ e. waits-below (length l.steps) c.in-Visit.i (step_at l c.in-Visit.i).premises c.args.tasks.now.items c.wait_for.new.tasks.items c.requires.tasks (within d) (step-is l c.steps.ensures.lists c.in-Visit.i (within d)).premises (e ∙ ap (λ is. (c.args.tasks.now.items ++ Finish c.in-Visit.i ∷ []) ++ visits is) (premises d)))
    c.wait_for.ensures
