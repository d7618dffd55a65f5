-- Which theorems a written proof cites, and which keys theorems have, in the steps of the code.
use Rattle.std.specs.Prelude.{◌≡◌, ℕ, suc, ◌+◌, Bool, true, false, if◌then◌else◌, List, [], ◌∷◌, ◌++◌, Option}
use Rattle.tla_ast.specs.declared.place.Place.{Place}
use Rattle.tla_ast.specs.declared.unit.Step.{Step as source_step, out-Step}
use Rattle.plain_syntax.specs.Plain.{Proof, Steps, Move as move, Unit, UnitKind as u, Module}
use Rattle.plain_syntax.specs.Plain.Proof.{missing, obvious, omitted, by_facts, steps}
use Rattle.plain_syntax.specs.Plain.Steps.{end_steps, step}
use Rattle.plain_syntax.specs.Syntax.{move_of}
use Rattle.plain_syntax.specs.Syntax.{proof_of as plain_proof}
use Rattle.symbol_table.specs.declared.entry.Entry.{Entry}
use Rattle.symbol_table.specs.Scoped.{Table, symbol}
use Rattle.proof_contexts.specs.Expansion.{has_number}
use Rattle.usable_facts.specs.Keys.{theorem_key}
use Rattle.usable_facts.specs.Proofs.{hidden}
use Rattle.usable_facts.specs.Definitions.{Means}
use Rattle.usable_facts.specs.Theorems.{number_of}

-- ---- citations

abbrev pub is_qed : move → Bool
is_qed move.qed = true
is_qed m = false

-- what later steps cite counts behind a step that is not QED
abbrev pub before_qed : move → List ℕ → List ℕ
before_qed m rest = if is_qed m then [] else rest

module _ (means : Place → Option ℕ) (cite : Place → Option ℕ) (entries : List Entry) where
  -- the keys that a step cites, where its own proof cites these
  abbrev pub step_keys : move → List ℕ → List ℕ
  step_keys (move.assert s) own = own
  step_keys (move.case t) own = own
  step_keys (move.suffices s) own = own
  step_keys (move.pick gs t) own = own
  step_keys (move.add fs ds) own = hidden means cite entries fs
  step_keys move.qed own = own
  step_keys m own = []

  -- The keys that a proof cites in BY and USE: those by which HIDE would name its facts. What stands behind QED does not count.
  abbrev mutual
    pub keys_in : Proof → List ℕ
    keys_in missing = []
    keys_in (obvious p) = []
    keys_in (omitted p) = []
    keys_in (by_facts p only fs ds) = hidden means cite entries fs
    keys_in (steps ss) = keys_in_steps ss

    pub keys_in_steps : Steps → List ℕ
    keys_in_steps end_steps = []
    keys_in_steps (step p l w m own ss) = step_keys m (keys_in own) ++ before_qed m (keys_in_steps ss)

  -- the keys of these steps
  abbrev pub keys_in_all : List source_step → List ℕ
  keys_in_all [] = []
  keys_in_all (x ∷ xs) =
      let y = out-Step x in
      step_keys (move_of y.kind) (keys_in (plain_proof y.proof)) ++ before_qed (move_of y.kind) (keys_in_all xs)

-- ---- keys of theorems

-- the key of a unit's theorem, if it is one; i: how many theorems stand before
abbrev pub unit_keys : Means → ℕ → u → List ℕ
unit_keys means i (u.theorem w s own) = theorem_key i (number_of means w) ∷ []
unit_keys means i _ = []

-- how many theorems a unit is
abbrev pub theorems_in : u → ℕ
theorems_in (u.theorem w s own) = 1
theorems_in _ = 0

abbrev pub units_keys : Means → ℕ → List Unit → List ℕ
units_keys means i [] = []
units_keys means i (x ∷ xs) = unit_keys means i x.kind ++ units_keys means (i + theorems_in x.kind) xs

abbrev pub count_theorems : List Unit → ℕ
count_theorems [] = 0
count_theorems (x ∷ xs) = theorems_in x.kind + count_theorems xs

abbrev pub modules_keys : Table → ℕ → ℕ → List Module → List ℕ
modules_keys t m i [] = []
modules_keys t m i (x ∷ xs) = units_keys (symbol t m) i x.units ++ modules_keys t (suc m) (i + count_theorems x.units) xs

-- the set has exactly these keys
abbrev pub HasKeys : List ℕ → List ℕ → Type 0
HasKeys set keys = (k : ℕ) → has_number set k ≡ has_number keys k
