-- Laws of derivations.
use Rattle.std.specs.Prelude.{◌≡◌, ℕ, Option, Some, List, map}
use Rattle.core_expr.specs.declared.head.Sym.{Sym}
use Rattle.core_expr.specs.Tree.{Tree}
use Rattle.core_expr.specs.Put.{sub}
use Rattle.seq_calculus.specs.Schemas.{closed_instance}
use Rattle.seq_calculus.specs.Calculus.{HasAll, AllClosed, Proofs, Correct, Der}
use Rattle.seq_calculus.specs.Calculus.Rule.{Schema}
use Rattle.seq_calculus.specs.Calculus.Proof.{step}

-- More formulas on either side, in any order, keep a sequent derivable.
abbrev pub Weakening : Type 0
Weakening = (g d g1 d1 : List Tree) → AllClosed g → AllClosed d → HasAll g g1 → HasAll d d1 → Der g1 d1 → Der g d

-- A map from symbols, applied to each formula, keeps a sequent derivable.
abbrev pub Substitution : Type 0
Substitution = (s : Sym → Option Tree) (g d : List Tree) → Der g d → Der (map (sub s) g) (map (sub s) d)

-- A derivable sequent has closed formulas alone.
abbrev pub Closedness : Type 0
Closedness = (g d : List Tree) → Der g d → AllClosed g × AllClosed d

-- The formula that a correct step brings in by a schema is its closed instance.
abbrev pub ClosedInstances : Type 0
ClosedInstances = (k z : ℕ) (es g d : List Tree) (ps : Proofs) → Correct (step (Schema k z es) ps) g d → (i : Tree) × (closed_instance k z es ≡ Some i)
