use Rattle.std.proofs.Common.{◌≡◌, [], ◌∷◌, length, map, ap, sym, ◌∙◌, subst, rules}
use Rattle.std.proofs.lemmas.List.{map-append}
use Rattle.core_expr.specs.Nodes.{AreBelow}
use Rattle.seq_calculus.specs.Steps.{proof_of}
use Rattle.text_writer.specs.Proofs.{AllEntered, enter_proof, no_lists}
use Rattle.text_writer.specs.Tasks.{state, behind, acts, step_of}
use Rattle.text_writer.proofs.SharedLaws.{below-split}
use Rattle.text_writer.proofs.StepLaws.{acts-append}
use Rattle.text_writer.proofs.proof.make.Goals as goal
use Rattle.text_writer.proofs.proof.make.Goals.{In-Some, After-drop-tasks}

all-done : (c : After-drop-tasks) → state c.loop.made.growing.table.keys c.loop.made.steps.items c.loop.made.places.items ≡ behind [] (enter_proof (proof_of c.args.proof.now) no_lists)
unfolding proof_of
all-done c =
    let e : c.loop.tasks.items ≡ [] = search rules in
    ap (λ ts. acts c.args.proof.now ts (state c.loop.made.growing.table.keys c.loop.made.steps.items c.loop.made.places.items)) (sym e) ∙ c.loop.invariant.entered

pub returns-in_default-clause-nodes : goal.returns-in_default-clause-nodes
returns-in_default-clause-nodes c = ap (λ (a : AllEntered). a.lists.nodes) (all-done (goal.at.returns-in_default-clause-nodes c).After-drop-tasks)

pub returns-in_default-clause-steps : goal.returns-in_default-clause-steps
returns-in_default-clause-steps c = ap (λ (a : AllEntered). a.lists.steps) (all-done (goal.at.returns-in_default-clause-steps c).After-drop-tasks)

below : (c : In-Some) → AreBelow (length c.args.proof.now.steps) (map step_of c.pop.new.self.items) × AreBelow (length c.args.proof.now.steps) (step_of c.in-Some.task ∷ [])
below c =
    let n = length c.args.proof.now.steps in
    below-split n (map step_of c.pop.new.self.items) (step_of c.in-Some.task ∷ []) (subst (AreBelow n) (ap (map step_of) c.in-Some.ensures.items ∙ map-append step_of c.pop.new.self.items (c.in-Some.task ∷ [])) c.loop.invariant.tasks)

pub turn-requires-clause-tasks : goal.turn-requires-clause-tasks
turn-requires-clause-tasks c = (below (goal.at.turn-requires-clause-tasks c).In-Some).0

pub turn-requires-clause-task : goal.turn-requires-clause-task
turn-requires-clause-task c = (below (goal.at.turn-requires-clause-task c).In-Some).1.0

pub loop-preserved : goal.loop-preserved
loop-preserved c =
    let l = c.args.proof.now in
    let a = state c.loop.made.growing.table.keys c.loop.made.steps.items c.loop.made.places.items in
    record {
      entered =
          c.in_ok-turn.ensures.entered ∙ sym (ap (λ ts. acts l ts a) c.in-Some.ensures.items ∙ acts-append l c.pop.new.self.items (c.in-Some.task ∷ []) a) ∙ c.loop.invariant.entered;
      noted = c.in_ok-turn.ensures.noted;
      tasks = c.in_ok-turn.ensures.tasks;
    }
