-- Laws of proofs. Each statement is the contract of a function of src/laws.rt.
use Rattle.std.specs.Prelude.{◌≡◌, ℕ, Bool, Option, List, [], map}
use Rattle.core_expr.specs.declared.head.Sym.{Sym}
use Rattle.core_expr.specs.declared.canon.Canon.{Canon}
use Rattle.core_expr.specs.Tree.{Tree}
use Rattle.core_expr.specs.Put.{sub}
use Rattle.seq_calculus.specs.Calculus.{HasAll}
use Rattle.obligation.specs.declared.obligation.Definition.{Definition}
use Rattle.proof_contexts.specs.Expansion.{chosen, unfold_head, full}
use Rattle.proof_contexts.specs.Canonical.{canon_of}
use Rattle.proof_contexts.specs.Contexts.{unfolded_by}
use Rattle.proof_contexts.specs.Leaves.{IsDerived}
use Rattle.proof_contexts.specs.Theorems.{Theorem, IsDerivable}
use Rattle.proof_contexts.specs.Statuses.{Verdict, IsReported}
use Rattle.proof_contexts.specs.Right.{AreOrdered, InOrder}

-- Proved is answered to canonical forms alone that have a derivation
abbrev pub IsSound : (Canon → Verdict) → Type 0
IsSound answer = (c : Canon) → answer c ≡ Verdict.Proved → IsDerived c

-- Of theorems in order, as the scope rules leave them, each that is reported proved has a derivation of its fact from what is
-- assumed before it alone, both fully expanded.
abbrev pub ReportedDerives : Type 0
ReportedDerives =
    (rank : Sym → ℕ) (table : List Definition) (is_theorem : ℕ → Bool) (answer : Canon → Verdict) → AreOrdered rank table → IsSound answer
    → (ts : List Theorem) → InOrder rank table is_theorem [] ts → (t : Theorem) → IsReported table is_theorem answer [] ts t
    → IsDerivable table t

-- What is unfolded in part, everywhere or at its head, has the same full expansion.
abbrev pub ExpansionIsFinal : Type 0
ExpansionIsFinal =
    (rank : Sym → ℕ) (table : List Definition) → AreOrdered rank table → (u : List ℕ) (e : Tree)
    → (full table (unfolded_by table u e) ≡ full table e) × (full table (unfold_head (chosen u table) e) ≡ full table e)

-- An obligation's formulas come back from its canonical form by a map from symbols.
abbrev pub CanonGoesBack : Type 0
CanonGoesBack =
    (fs : List Tree) (g : Tree)
    → (names : Sym → Option Tree) × HasAll fs (map (sub names) (canon_of fs g).facts) × (sub names (canon_of fs g).goal ≡ g)
