-- What is proved of the unifier. Each statement is the contract of a function of src/lib.rt.
use Rattle.std.specs.Prelude.{◌≡◌, ℕ, ◌≤◌, true, Some, None, List, [], length, ◌↔◌}
use Rattle.core_expr.specs.declared.head.Sym.{Sym}
use Rattle.core_expr.specs.Tree.{Tree}
use Rattle.core_expr.specs.Put.{IsScoped}
use Rattle.unifier_definition.specs.Metas.{listed, assign}
use Rattle.unifier_definition.specs.Unify.{difference, Binding, unify, mgu, bound_to, answers}
use Rattle.unifier_definition.specs.Unify.Difference.{Same}

-- v is a unifier of s and t for the metavariables ms: it maps to closed terms, and makes s and t equal
abbrev pub IsUnifier : List Sym → (Sym → Tree) → Tree → Tree → Type 0
IsUnifier ms v s t = ((f : Sym) → IsScoped 0 (v f)) × (assign ms v s ≡ assign ms v t)

-- the answer is a unifier
abbrev pub AnswerUnifies : Type 0
AnswerUnifies = (ms : List Sym) (s t : Tree) (bs : List Binding) → mgu ms s t ≡ Some bs → IsUnifier ms (answers bs) s t

-- the answer is most general: every unifier is an instance of it, since it gives each metavariable the value that it gives its term
abbrev pub AnswerIsGeneral : Type 0
AnswerIsGeneral =
    (ms : List Sym) (s t : Tree) (bs : List Binding) (v : Sym → Tree) → mgu ms s t ≡ Some bs → IsUnifier ms v s t → (f : Sym) → listed ms f ≡ true → assign ms v (answers bs f) ≡ v f

-- the answer is fully applied (idempotent): putting it into its own terms changes nothing
abbrev pub AnswerIsApplied : Type 0
AnswerIsApplied = (ms : List Sym) (s t : Tree) (bs : List Binding) → mgu ms s t ≡ Some bs → (f : Sym) → listed ms f ≡ true → assign ms (answers bs) (answers bs f) ≡ answers bs f

-- the answer binds metavariables of the list alone
abbrev pub AnswerIsListed : Type 0
AnswerIsListed = (ms : List Sym) (s t : Tree) (bs : List Binding) → mgu ms s t ≡ Some bs → (f : Sym) (u : Tree) → bound_to f bs ≡ Some u → listed ms f ≡ true

-- the unifier answers None exactly where there is no unifier
abbrev pub NoneMeansNone : Type 0
NoneMeansNone = (ms : List Sym) (s t : Tree) → (mgu ms s t ≡ None) ↔ ((v : Sym → Tree) → IsUnifier ms v s t → ⊥)

-- with room for as many rounds as there are metavariables, or more, the answer is the same
abbrev pub UnifierHasRoom : Type 0
UnifierHasRoom = (ms : List Sym) (s t : Tree) (room : ℕ) → length ms ≤ room → unify room ms [] s t ≡ mgu ms s t

-- terms differ nowhere exactly where they are equal, so that equal parts can be passed by unread
abbrev pub SameIsEqual : Type 0
SameIsEqual = (ms : List Sym) (s t : Tree) → (difference ms s t ≡ Same) ↔ (s ≡ t)
