-- Statements whose symbols are in scope where they stand.
use Rattle.std.specs.Prelude.{◌≡◌, ℕ, suc, ◌⊎◌, List, [], ◌∷◌}
use Rattle.core_expr.specs.declared.head.Sym.{Sym}
use Rattle.core_expr.specs.Tree.{Tree}
use Rattle.seq_calculus.specs.Calculus.{IsClosed}
use Rattle.obligation.specs.declared.obligation.Definition.{Definition}
use Rattle.prime_expand.specs.Laws.{Only}
use Rattle.proof_contexts.specs.Steps.{Item}
use Rattle.proof_contexts.specs.Steps.Item.{New, NewIn, Given}
use Rattle.proof_contexts.specs.Right.{IsNew}

-- which symbols are in scope, each with its number of arguments
abbrev pub InScope : Type 1
InScope = Sym → ℕ → Type 0

-- a new symbol without arguments too
abbrev pub With : InScope → Sym → InScope
With P x f k = P f k ⊎ ((f ≡ x) × (k ≡ 0))

-- a closed expression over symbols in scope
abbrev pub IsClosedOver : InScope → Tree → Type 0
IsClosedOver P e = Only P e × IsClosed e

-- items and then a formula: each sees the NEW names before it
abbrev pub AreOver : InScope → List Item → Tree → Type 0
AreOver P [] g = IsClosedOver P g
AreOver P (New x ∷ is) g = AreOver (With P x) is g
AreOver P (NewIn x s ∷ is) g = IsClosedOver P s × AreOver (With P x) is g
AreOver P (Given a ∷ is) g = IsClosedOver P a × AreOver P is g

-- each NEW symbol is new where symbols of ranks below n are known
module _ (rank : Sym → ℕ) (table : List Definition) where
  abbrev pub AreNew : ℕ → List Item → Type 0
  AreNew n [] = Unit {0}
  AreNew n (New x ∷ is) = IsNew rank table n x × AreNew (suc (rank x)) is
  AreNew n (NewIn x s ∷ is) = IsNew rank table n x × AreNew (suc (rank x)) is
  AreNew n (Given a ∷ is) = AreNew n is
