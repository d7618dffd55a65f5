-- What is kept of the branches.
use Rattle.std.specs.Prelude.{◌≡◌, ℕ, ◌<◌, List, [], length}
use Rattle.std.proofs.Common.{get_or}
use Rattle.branch_state.specs.Shown.{Placed, Shown}
use Rattle.tableau_search.specs.Entries.{AreKnown}

-- what was put off at the first c places stays right, for branches of numbers below n
abbrev pub Stays : ℕ → ℕ → (ℕ → List Placed → Type 0) → (ℕ → List Placed → Type 0) → Type 0
Stays n c old new = (k : ℕ) (es : List Placed) → k < c → AreKnown n es → old k es → new k es

-- What is kept is right for the branch, and what was put off for those that wait, each at its place; there are c places.
pub record IsMemo (right : List Placed → Type 0) (saved : ℕ → List Placed → Type 0) (c : ℕ) (s : Shown) : Type 0 where
  pub now : right s.now
  pub waits : (k : ℕ) → k < length s.waits → saved k (get_or s.waits k [])
  pub count : c ≡ length s.waits
