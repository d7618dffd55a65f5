-- A known list that has grown: what was known is there still, with further marks, usable or not.
use Rattle.std.specs.Prelude.{◌≡◌, ℕ, Bool, List, [], ◌∷◌, take, length, map}
use Rattle.known_facts.specs.declared.context.Saved.{Saved}
use Rattle.proof_contexts.specs.Contexts.{Entry, Context}

abbrev pub IsOlder : Entry → Entry → Type 0
IsOlder x y = (x.formula ≡ y.formula) × (x.keys ≡ y.keys) × (take (length x.marks) y.marks ≡ x.marks)

abbrev pub Grown : List Entry → List Entry → Type 0
Grown [] ys = Unit {0}
Grown (x ∷ xs) [] = ⊥
Grown (x ∷ xs) (y ∷ ys) = IsOlder x y × Grown xs ys

-- whether an entry is usable, and how many marks it has
abbrev pub state_of : Entry → Bool × ℕ
state_of e = (e.usable, length e.marks)

abbrev pub states_of : List Entry → List (Bool × ℕ)
states_of = map state_of

-- an entry with what it was before
abbrev pub restored_one : Bool × ℕ → Entry → Entry
restored_one s e = record { formula = e.formula; keys = e.keys; marks = take s.1 e.marks; usable = s.0 }

-- the oldest entries, each as it was
abbrev pub restored : List (Bool × ℕ) → List Entry → List Entry
restored [] es = es
restored (s ∷ ss) [] = []
restored (s ∷ ss) (e ∷ es) = restored_one s e ∷ restored ss es

-- what is kept of a context
pub record IsSaved (s : Saved) (c : Context) : Type 0 where
  pub states : s.states.items ≡ states_of c.known
  pub defs : s.defs.items ≡ c.defs
  pub goal : s.goal ≡ c.goal
