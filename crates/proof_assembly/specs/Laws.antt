-- What is proved of modules. Each statement is the contract of a function of src/lib.rt.
use Rattle.std.specs.Prelude.{◌≡◌, ℕ, ◌<◌, Bool, true, IsTrue, List, [], ◌∷◌, Ok}
use Rattle.core_expr.specs.declared.head.Sym.{Sym}
use Rattle.core_expr.specs.declared.canon.Canon.{Canon}
use Rattle.core_expr.specs.Tree.{Tree}
use Rattle.obligation.specs.declared.obligation.Definition.{Definition}
use Rattle.plain_syntax.specs.Plain.{Module}
use Rattle.symbol_table.specs.Scoped.{Table}
use Rattle.module_scope.specs.Resolution.{resolution}
use Rattle.prime_expand.specs.Laws.{Holds}
use Rattle.proof_contexts.specs.Steps.{Item}
use Rattle.proof_contexts.specs.Contexts.{fact_of, picked}
use Rattle.proof_contexts.specs.Statuses.{Verdict, Status, is_proved, statuses, IsReported}
use Rattle.proof_contexts.specs.Theorems.{Theorem, IsDerivable}
use Rattle.proof_contexts.specs.Right.{RightItems}
use Rattle.proof_contexts.specs.Laws.{IsSound}
use Rattle.usable_facts.specs.Definitions.{definitions_of}
use Rattle.usable_facts.specs.Theorems.{all_theorems, is_theorem_of}
use Rattle.name_places.specs.Places.{NamesDiffer, PlacesDiffer}
use Rattle.proof_assembly.specs.Scopes.{AreOver, AreNew}

-- A statement whose symbols are in scope where they stand is right, where those in scope before it have ranks below n; so are the
-- names that PICK chooses.
abbrev pub InScopeIsRight : Type 0
InScopeIsRight =
    (rank : Sym → ℕ) (table : List Definition) (is_known : Sym → ℕ → Bool) (n : ℕ) (is : List Item) (g : Tree)
    → ((f : Sym) (k : ℕ) → IsTrue (is_known f k) → rank f < n) → AreNew rank table n is → AreOver (Holds is_known) is g
    → RightItems rank table fact_of n is g × RightItems rank table picked n is g

-- Of modules with different names, whose names are resolved, and of which none has two names at one place: each theorem that is
-- reported proved has a derivation of its fully expanded fact from the fully expanded assumptions before it alone.
abbrev pub ReportedDerives : Type 0
ReportedDerives =
    (ms : List Module) (t : Table) (answer : Canon → Verdict) → resolution ms ≡ Ok t → NamesDiffer ms → PlacesDiffer ms → IsSound answer
    → (x : Theorem) → IsReported (definitions_of ms t) (is_theorem_of ms t) answer [] (all_theorems ms t) x
    → IsDerivable (definitions_of ms t) x

-- each theorem whose status is proved has such a derivation
abbrev pub EachDerives : List Definition → List Theorem → List Status → Type 0
EachDerives table [] ss = Unit {0}
EachDerives table (x ∷ xs) [] = Unit {0}
EachDerives table (x ∷ xs) (s ∷ ss) = (is_proved s ≡ true → IsDerivable table x) × EachDerives table xs ss

-- Of such modules, the statuses of all theorems are justified: the theorem of each that is proved has its derivation.
abbrev pub StatusesAreJustified : Type 0
StatusesAreJustified =
    (ms : List Module) (t : Table) (answer : Canon → Verdict) → resolution ms ≡ Ok t → NamesDiffer ms → PlacesDiffer ms → IsSound answer
    → EachDerives (definitions_of ms t) (all_theorems ms t) (statuses (definitions_of ms t) (is_theorem_of ms t) answer [] (all_theorems ms t))
