-- A flat proof of A => A, and a wrong one.
use Rattle.std.specs.Prelude.{◌≡◌, ℕ, List, [], ◌∷◌}
use Rattle.core_expr.specs.Tree.{Tree, imp_}
use Rattle.core_expr.specs.Tree.Tree.{app}
use Rattle.core_expr.specs.Tree.Parts.{end}
use Rattle.core_expr.specs.Nodes.{canon_sym}
use Rattle.seq_calculus.specs.Calculus.{Correct}
use Rattle.seq_calculus.specs.Lists.{Lists, AreLists, written}
use Rattle.seq_calculus.specs.Steps.{proof_of}

-- the first symbol of a canonical form
abbrev pub first_symbol : Tree
first_symbol = app (canon_sym 0 0) end

-- the axiom with A, and then a rule with A twice over it
abbrev pub two_steps : ℕ → Lists
two_steps rule = record {
  nodes = record { head = 6; numbers = 0 ∷ 0 ∷ []; parts = [] } ∷ [];
  steps = record { rule = 0; numbers = []; exprs = 0 ∷ []; premises = [] } ∷ record { rule = rule; numbers = []; exprs = 0 ∷ 0 ∷ []; premises = 0 ∷ [] } ∷ [];
}

-- these lists, as they are written, prove A => A
abbrev pub Proves : Lists → List ℕ → Type 0
Proves l ns = (written l ≡ ns) × AreLists l × Correct (proof_of l) [] (imp_ first_symbol first_symbol ∷ [])

-- these lists are allowed, as they are written, and do not prove A => A
abbrev pub FailsToProve : Lists → List ℕ → Type 0
FailsToProve l ns = (written l ≡ ns) × AreLists l × ¬ (Correct (proof_of l) [] (imp_ first_symbol first_symbol ∷ []))

-- With the rule for an implication on the right (12) the two steps prove A => A; with that for a disjunction (10) they
-- do not.
abbrev pub FlatExample : Type 0
FlatExample =
    Proves (two_steps 12) (1 ∷ 6 ∷ 0 ∷ 0 ∷ 2 ∷ 0 ∷ 0 ∷ 12 ∷ 0 ∷ 0 ∷ 0 ∷ [])
    × FailsToProve (two_steps 10) (1 ∷ 6 ∷ 0 ∷ 0 ∷ 2 ∷ 0 ∷ 0 ∷ 10 ∷ 0 ∷ 0 ∷ 0 ∷ [])
