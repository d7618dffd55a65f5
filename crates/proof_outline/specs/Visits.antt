-- The walk in the steps of the code.
use Rattle.std.specs.Prelude.{◌≡◌, ℕ, Bool, false, ◌||◌, List, [], ◌∷◌, Result, Ok, Err}
use Rattle.tla_ast.specs.declared.place.Place.{Place}
use Rattle.tla_ast.specs.declared.unit.Step.{Step, out-Step}
use Rattle.plain_syntax.specs.Syntax.{move_of, proof_of}
use Rattle.symbol_table.specs.Symbols.{noted}
use Rattle.proof_outline.specs.declared.walk.Stop.{Stop as stopped}
use Rattle.proof_outline.specs.declared.walk.Stop.TheVariants as stop
use Rattle.proof_outline.specs.Outline.{Name, State, Stop, Walk, is_name_of, has_step, and_then, fresh, entered, move_names, proof_names}
use Rattle.proof_outline.specs.Outline.State.{state}
use Rattle.proof_outline.specs.Outline.Stop.{again, unseen}

-- what was done is what is defined, or the walk stopped as it does, unless memory was not found
abbrev pub IsStop : Result State Stop → stopped → Type 0
IsStop defined stop.Memory = Unit {0}
IsStop defined (stop.Again p) = defined ≡ Err (again p)
IsStop defined (stop.Unseen l w p) = defined ≡ Err (unseen (l, w.now) p)

abbrev pub Does : {A : Type 0} → Result State Stop → Result A stopped → State → Type 0
Does defined (Ok r) after = defined ≡ Ok after
Does defined (Err e) after = IsStop defined e

-- a step with its proof
abbrev pub step_names : ℕ → Step → Walk
step_names first x s =
    let y = out-Step x in
    and_then (fresh first y.level y.label y.place s) (λ t. and_then (move_names (move_of y.kind) t) (λ t. proof_names (proof_of y.proof) (entered y.level y.label t)))

abbrev pub each_step : ℕ → List Step → Walk
each_step first [] s = Ok s
each_step first (x ∷ xs) s = and_then (step_names first x s) (each_step first xs)

-- a cited name gets its meaning
abbrev pub noted_at : Place → ℕ → State → State
noted_at p n (state seen next cites) = state seen next (noted p n cites)

-- a step has the name, of itself
abbrev pub is_step_of : Name → Step → Bool
is_step_of a x = is_name_of a (out-Step x).level (out-Step x).label

-- one of these steps or of their subproofs
abbrev pub any_step : Name → List Step → Bool
any_step a [] = false
any_step a (x ∷ xs) = is_step_of a x || (has_step a (proof_of (out-Step x).proof) || any_step a xs)
