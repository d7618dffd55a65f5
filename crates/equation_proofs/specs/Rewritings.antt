-- Equations of schemas by numbers.
use Rattle.std.specs.Prelude.{◌≡◌, ℕ, Option, Some, None, List}
use Rattle.core_expr.specs.Tree.{Tree}
use Rattle.core_expr.specs.Nodes.{AreBelow, picked}
use Rattle.search_definition.specs.Plain.{Rewrite}
use Rattle.equation_proofs.specs.declared.replacing.Rewriting.{Rewriting}

-- the equation of this schema with these parameters
abbrev pub equation_of : ℕ → ℕ → List ℕ → Option Rewriting
equation_of k z ps = Some (record { schema = k; z = z; params = ps })

-- the numbers say this equation
abbrev pub IsRewriting : List Tree → Option Rewriting → Option Rewrite → Type 0
IsRewriting ts None None = Unit {0}
IsRewriting ts (Some r) (Some m) = (r.schema ≡ m.schema) × (r.z ≡ m.z) × (picked ts r.params ≡ m.params)
IsRewriting ts _ _ = ⊥

-- its numbers are below n
abbrev pub AreUnder : ℕ → Option Rewriting → Type 0
AreUnder n None = Unit {0}
AreUnder n (Some r) = AreBelow n r.params

-- the sides of the equation, where there is one
abbrev pub IsOther : Option Rewrite → Tree → Tree → Type 0
IsOther None s t = Unit {0}
IsOther (Some m) s t = (m.from ≡ s) × (m.to ≡ t)
