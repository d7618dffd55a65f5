-- What the functions of the walk do: ls are the leaves before, ms those after; c is the context before, d the one after.
use Rattle.std.specs.Prelude.{◌≡◌, ℕ, suc, ◌+◌, Bool, if◌then◌else◌, List, [], ◌∷◌, ◌++◌, map, Option, Some, None}
use Rattle.tla_ast.specs.declared.place.Place.{Place}
use Rattle.tla_ast.specs.declared.tree.Decl.{Decl}
use Rattle.tla_ast.specs.declared.unit.Fact.{Fact as source_fact}
use Rattle.tla_ast.specs.declared.unit.Step.{Step as source_step, out-Step}
use Rattle.tla_ast.specs.declared.unit.Proof.{Proof as source}
use Rattle.obligation.specs.declared.obligation.Definition.{Definition}
use Rattle.symbol_table.specs.declared.entry.Entry.{Entry}
use Rattle.symbol_table.specs.Symbols.{symbol_at}
use Rattle.plain_syntax.specs.Plain.Proof.{by_facts}
use Rattle.plain_syntax.specs.Syntax.{fact_of}
use Rattle.plain_syntax.specs.Syntax.{proof_of as plain_proof}
use Rattle.proof_contexts.specs.declared.leaf.Leaf.{Leaf}
use Rattle.proof_contexts.specs.Steps.{Proof}
use Rattle.proof_contexts.specs.Contexts.{Context}
use Rattle.proof_contexts.specs.Leaves.{leaves}
use Rattle.known_facts.specs.Clean.{definitions_of}
use Rattle.proof_leaves.specs.declared.step.Move.{Move}
use Rattle.proof_leaves.specs.declared.step.Claim.{Claim}
use Rattle.proof_leaves.specs.Shown.{step_of, claim_of}
use Rattle.usable_facts.specs.Keys.{label_key}
use Rattle.usable_facts.specs.Proofs.{count, proof_of}
use Rattle.theorem_leaves.specs.Homes as homes
use Rattle.theorem_leaves.specs.declared.walk.Walker.{Walker}
use Rattle.theorem_leaves.specs.declared.walk.Stand.{Stand}
use Rattle.theorem_leaves.specs.Visits.{state_of, act_all, visit, visit_all, finished}
use Rattle.theorem_leaves.specs.Visits.State.{going}

-- where a step with this number stands
abbrev pub stand_of : ℕ → source_step → Stand
stand_of n x =
    let y = out-Step x in
    record { place = y.place; label = label_key n y.label; first = suc n; next = suc n + count (plain_proof y.proof) }

module _ (w : Walker) where
  abbrev pub table : List Definition
  table = definitions_of w.table.now

  abbrev pub means : Place → Option ℕ
  means = homes.means w.home

  abbrev pub cite : Place → Option ℕ
  cite = symbol_at w.outline.now

  abbrev pub entries : List Entry
  entries = homes.entries w.home

  -- a proof over cores, where it stands at this place and its first step has this number
  abbrev pub proof_at : Place → ℕ → source → Proof
  proof_at p n x = proof_of means cite entries p n (plain_proof x)

  -- the leaves of a proof are behind the others
  abbrev pub Answers : Place → ℕ → source → Context → List Leaf → List Leaf → Type 0
  Answers p n x c ls ms = ms ≡ ls ++ leaves table (proof_at p n x) c

  -- those of BY
  abbrev pub AnswersBy : Place → Bool → List source_fact → List Decl → Context → List Leaf → List Leaf → Type 0
  AnswersBy p only fs ds c ls ms = ms ≡ ls ++ leaves table (proof_of means cite entries p 0 (by_facts p only (map fact_of fs) ds)) c

  -- steps without proofs of their own, where the proof goes on or not
  abbrev pub MakesAll : Stand → List Move → Context → List Leaf → Bool → Context → List Leaf → Type 0
  MakesAll s xs c ls on d ms =
      act_all table means cite entries s.place (map (step_of s.label) xs) (going s.next c ls) ≡ state_of (if on then Some s.next else None) d ms

  -- a step with a proof of its own
  abbrev pub Claims : Stand → Claim → source → Context → List Leaf → Context → List Leaf → Type 0
  Claims s x own c ls d ms =
      act_all table means cite entries s.place (claim_of s.label x (proof_at s.place s.first own) ∷ []) (going s.next c ls) ≡ going s.next d ms

  -- a step with this number, and the number of the next
  abbrev pub Visits : source_step → ℕ → Context → List Leaf → Option ℕ → Context → List Leaf → Type 0
  Visits x n c ls next d ms = visit table means cite entries x (going n c ls) ≡ state_of next d ms

  -- the steps of a proof at this place
  abbrev pub VisitsAll : Place → ℕ → List source_step → Context → List Leaf → List Leaf → Type 0
  VisitsAll p n xs c ls ms = ms ≡ finished p (visit_all table means cite entries xs (going n c ls))
