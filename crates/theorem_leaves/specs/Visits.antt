-- The walk over the steps of a proof, in the steps of the code.
use Rattle.std.specs.Prelude.{ℕ, suc, ◌+◌, List, [], ◌∷◌, ◌++◌, Option, Some, None}
use Rattle.tla_ast.specs.declared.place.Place.{Place}
use Rattle.tla_ast.specs.declared.unit.Step.{Step as written, out-Step}
use Rattle.obligation.specs.declared.obligation.Definition.{Definition}
use Rattle.symbol_table.specs.declared.entry.Entry.{Entry}
use Rattle.plain_syntax.specs.Plain.{Move as move}
use Rattle.plain_syntax.specs.Syntax.{move_of}
use Rattle.plain_syntax.specs.Syntax.{proof_of as plain_proof}
use Rattle.proof_contexts.specs.declared.leaf.Leaf.{Leaf}
use Rattle.proof_contexts.specs.declared.leaf.LeafKind.TheVariants as kind
use Rattle.proof_contexts.specs.Steps.{Proof, Step}
use Rattle.proof_contexts.specs.Contexts.{Context, given, after}
use Rattle.proof_contexts.specs.Leaves.{a_leaf, leaves, own_leaves, sub_leaves}
use Rattle.usable_facts.specs.Keys.{label_key}
use Rattle.usable_facts.specs.Proofs.{count, acts, proof_of}

-- how many steps these are, with those of their subproofs
abbrev pub count_all : List written → ℕ
count_all [] = 0
count_all (x ∷ xs) = suc (count (plain_proof (out-Step x).proof) + count_all xs)

-- where a walk over steps is: the number of the next step, the context and the leaves so far; or all leaves, where it has ended, at
-- QED or at a step for which the goal has not the form
pub data State : Type 0 where
  going : ℕ → Context → List Leaf → State
  ended : List Leaf → State

-- the number of the next step, where the walk goes on
abbrev pub state_of : Option ℕ → Context → List Leaf → State
state_of None c ls = ended ls
state_of (Some n) c ls = going n c ls

-- the leaves of a proof by steps at this place, where no step is left
abbrev pub finished : Place → State → List Leaf
finished p (going n c ls) = ls ++ a_leaf p kind.Missing ∷ []
finished p (ended ls) = ls

-- table: the definitions of all modules; means, cite: the number that a name, and the step that a step name, at a place means
module _ (table : List Definition) (means : Place → Option ℕ) (cite : Place → Option ℕ) (entries : List Entry) where
  -- one step over cores at a place
  abbrev pub act : Place → Step → State → State
  act q a (ended ls) = ended ls
  act q a (going n c ls) =
      let ms = ls ++ (sub_leaves table a c ++ own_leaves table q a c) in
      given (after table a c) (ended (ms ++ a_leaf q kind.Shape ∷ [])) (λ d. going n d ms)

  abbrev pub act_all : Place → List Step → State → State
  act_all q [] s = s
  act_all q (a ∷ xs) s = act_all q xs (act q a s)

  -- what a step does, where its proof is this one, and this is the number of the step after it
  abbrev pub by_move : Place → move → Option ℕ → Proof → ℕ → Context → List Leaf → State
  by_move q move.qed l p k c ls = ended (ls ++ leaves table p c)
  by_move q m l p k c ls = act_all q (acts means cite entries l m p) (going k c ls)

  -- a step of the syntax
  abbrev pub visit : written → State → State
  visit x (ended ls) = ended ls
  visit x (going n c ls) =
      let y = out-Step x in
      let own = plain_proof y.proof in
      by_move y.place (move_of y.kind) (label_key n y.label) (proof_of means cite entries y.place (suc n) own) (suc n + count own) c ls

  abbrev pub visit_all : List written → State → State
  visit_all [] s = s
  visit_all (x ∷ xs) s = visit_all xs (visit x s)
