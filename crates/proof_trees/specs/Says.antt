-- What a proof tree says of every sequent that has certain formulas.
use Rattle.std.specs.Prelude.{List, [], ◌∷◌, ◌++◌}
use Rattle.core_expr.specs.Tree.{Tree}
use Rattle.seq_calculus.specs.Calculus.{HasAll, AllClosed, Proof, Correct}
use Rattle.search_definition.specs.Rules.{Sides, Step}
use Rattle.search_definition.specs.Rules.Sides.{Alone, Both}

-- The proof is correct for every closed sequent that has us on the left and vs on the right. So it needs no weakening, whatever else stands there.
abbrev pub Says : Proof → List Tree → List Tree → Type 0
Says p us vs = (g d : List Tree) → AllClosed g → AllClosed d → HasAll g us → HasAll d vs → Correct p g d

-- from proofs of the sides, each over us and what the side adds, k makes one over us
abbrev pub CarriesSides : Sides → (List Proof → Proof) → List Tree → Type 0
CarriesSides (Alone fs) k us = (p : Proof) → Says p (fs ++ us) [] → Says (k (p ∷ [])) us []
CarriesSides (Both fs gs) k us = (p q : Proof) → Says p (fs ++ us) [] → Says q (gs ++ us) [] → Says (k (p ∷ q ∷ [])) us []

-- The function carries the step: from proofs of its sides it makes one over the formulas that the step names.
abbrev pub Carries : Step → (List Proof → Proof) → Type 0
Carries s k = (us : List Tree) → HasAll us s.named → CarriesSides s.sides k us
