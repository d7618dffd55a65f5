-- Theorems, each with what is known before it.
use Rattle.std.specs.Prelude.{ℕ, Option, Some, None, List, [], ◌∷◌, map}
use Rattle.core_expr.specs.Tree.{Tree}
use Rattle.seq_calculus.specs.Calculus.{Der}
use Rattle.obligation.specs.declared.obligation.Definition.{Definition}
use Rattle.proof_contexts.specs.declared.leaf.Leaf.{Leaf}
use Rattle.proof_contexts.specs.Expansion.{full}
use Rattle.proof_contexts.specs.Steps.{Statement, Proof}
use Rattle.proof_contexts.specs.Contexts.{Entry, Context, told, with_goal, with_items, fact_of}
use Rattle.proof_contexts.specs.Leaves.{leaves}

-- what is known before a theorem: the formula of an ASSUME, with its name if it has one, or the fact of an earlier theorem with a name
pub data Known : Type 0 where
  Assumption : Option ℕ → Tree → Known
  Earlier : ℕ → Tree → Known

-- a theorem: the number that stands for its name, what is known before it in order, what it states, and its proof
pub record Theorem : Type 0 where
  pub key : ℕ
  pub known : List Known
  pub statement : Statement
  pub proof : Proof

-- the known list: an ASSUME without a name is usable, what has a name only where it is cited
abbrev pub entry_of : Known → Entry
entry_of (Assumption l f) = told l f
entry_of (Earlier k f) = told (Some k) f

-- the formulas of the ASSUMEs alone
abbrev pub assumptions : List Known → List Tree
assumptions [] = []
assumptions (Assumption l f ∷ ks) = f ∷ assumptions ks
assumptions (Earlier k f ∷ ks) = assumptions ks

-- the fact that a theorem states
abbrev pub fact : Theorem → Tree
fact t = fact_of t.statement.items t.statement.goal

abbrev pub before_it : Theorem → Context
before_it t = record { known = map entry_of t.known; defs = []; goal = fact t }

-- the context of a theorem's proof: what is known before it, its own domains and assumptions, and its goal; no definition is usable
abbrev pub start : Theorem → Context
start t = with_goal (with_items None t.statement.items (before_it t)) t.statement.goal

-- the definitions of all modules, in order of declaration
module _ (table : List Definition) where
  -- the fully expanded ASSUMEs before the theorem
  abbrev pub assumes : Theorem → List Tree
  assumes t = map (full table) (assumptions t.known)

  -- the fully expanded fact has a derivation from the fully expanded ASSUMEs before it alone
  abbrev pub IsDerivable : Theorem → Type 0
  IsDerivable t = Der (assumes t) (full table (fact t) ∷ [])

  -- the leaves of the theorem's proof
  abbrev pub theorem_leaves : Theorem → List Leaf
  theorem_leaves t = leaves table t.proof (start t)
