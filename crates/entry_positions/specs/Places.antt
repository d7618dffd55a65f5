-- Positions of the branch at hand and of those that wait.
use Rattle.std.specs.Prelude.{ℕ, List, [], ◌∷◌, ◌++◌}
use Rattle.std.proofs.Common.{get_or}

-- The positions of the branch at hand, and those that were put off, the first ones first.
pub record Places : Type 0 where
  pub current : List ℕ
  pub saved : List (List ℕ)

-- those that were put off at this place
abbrev pub place_at : List (List ℕ) → ℕ → List ℕ
place_at ps k = get_or ps k []

-- after the positions are put off
abbrev pub put : Places → Places
put p = record { current = p.current; saved = p.saved ++ p.current ∷ [] }
