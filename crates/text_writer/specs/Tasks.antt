-- The steps of a proof, entered by tasks.
use Rattle.std.specs.Prelude.{ℕ, List, [], ◌∷◌, ◌++◌, length}
use Rattle.std.proofs.Common.{get_or}
use Rattle.core_expr.specs.Nodes.{picked}
use Rattle.seq_calculus.specs.Calculus.{Proof}
use Rattle.seq_calculus.specs.declared.lists.ProofNode.{ProofNode}
use Rattle.seq_calculus.specs.declared.lists.ProofStep.{ProofStep}
use Rattle.seq_calculus.specs.Lists.{Lists}
use Rattle.seq_calculus.specs.Steps.{table_of, proofs_of, no_proof}
use Rattle.text_writer.specs.declared.task.Task.{Task}
use Rattle.text_writer.specs.declared.task.Task.TheVariants.{Visit, Finish}
use Rattle.text_writer.specs.Rows.{below_last, last_places}
use Rattle.text_writer.specs.Proofs.{Kept, Entered, AllEntered, with_step, enter_proof}

abbrev pub no_step : ProofStep
no_step = record { rule = 0; numbers = []; exprs = []; premises = [] }

abbrev pub step_at : Lists → ℕ → ProofStep
step_at l i = get_or l.steps i no_step

-- the proof of a step
abbrev pub proof_at : Lists → ℕ → Proof
proof_at l i = get_or (proofs_of (table_of l) l.steps) i no_proof

-- lists that grow, and the places of the steps that are to be premises
abbrev pub state : List ProofNode → List ProofStep → List ℕ → AllEntered
state ns ss ps = record { lists = record { nodes = ns; steps = ss }; places = ps }

-- behind these places
abbrev pub behind : List ℕ → Entered → AllEntered
behind ps e = record { lists = e.lists; places = ps ++ e.place ∷ [] }

-- the step with its own expressions
abbrev pub kept_step : Lists → ProofStep → Kept
kept_step l s = record { rule = s.rule; numbers = s.numbers; exprs = picked (table_of l) s.exprs }

-- a step stands for its premises, the last places
abbrev pub finished : Lists → ProofStep → AllEntered → AllEntered
finished l s a =
    behind (below_last (length s.premises) a.places) (with_step (kept_step l s) (record { lists = a.lists; places = last_places (length s.premises) a.places }))

abbrev pub act : Lists → Task → AllEntered → AllEntered
act l (Visit i) a = behind a.places (enter_proof (proof_at l i) a.lists)
act l (Finish i) a = finished l (step_at l i) a

-- these tasks are done, the last one first
abbrev pub acts : Lists → List Task → AllEntered → AllEntered
acts l [] a = a
acts l (t ∷ ts) a = act l t (acts l ts a)

-- visits to these steps, that to the first one last
abbrev pub visits : List ℕ → List Task
visits [] = []
visits (i ∷ is) = visits is ++ Visit i ∷ []

-- the step of a task
abbrev pub step_of : Task → ℕ
step_of (Visit i) = i
step_of (Finish i) = i
