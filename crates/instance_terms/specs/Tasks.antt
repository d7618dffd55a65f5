-- The walk that takes a universal apart into signed atoms.
use Rattle.std.specs.Prelude.{◌≡◌, ℕ, ◌+◌, ◌-◌, ◌*◌, ◌^◌, ◌<◌, ◌≤◌, List, [], ◌∷◌, ◌++◌, length}
use Rattle.core_expr.specs.declared.head.Sym.{Sym}
use Rattle.core_expr.specs.Tree.{Tree}
use Rattle.core_expr.specs.Terms.{nodes}
use Rattle.search_definition.specs.Instances.{Signed, Universal, signed_atoms}
use Rattle.term_bank.specs.Banks.{IsDistinct, Extends, tree_at}
use Rattle.instance_terms.specs.declared.fresh.SignedAtom.{SignedAtom}
use Rattle.instance_terms.specs.declared.expand.Part.{Part}
use Rattle.instance_terms.specs.declared.expand.Expansion.{Expansion}
use Rattle.instance_terms.specs.declared.expand.Expansion.TheVariants.{Nothing, Atom, One, Two, Four}
use Rattle.instance_terms.specs.declared.atoms.Task.{Task}
use Rattle.instance_terms.specs.Fresh.{signed_of}
use Rattle.instance_terms.specs.Atoms.{IsPart, part_atoms, IsExpansion}

-- a formula to be taken apart, so many steps on
abbrev pub task_of : Part → ℕ → Task
task_of p steps = record { part = p; steps = steps }

-- the stack with what stands for a formula, the first uppermost, which is the last of the list
abbrev pub tasks_pushed : List Task → Expansion → ℕ → List Task
tasks_pushed stack Nothing n = stack
tasks_pushed stack Atom n = stack
tasks_pushed stack (One a) n = stack ++ task_of a n ∷ []
tasks_pushed stack (Two a b) n = (stack ++ task_of b n ∷ []) ++ task_of a n ∷ []
tasks_pushed stack (Four a b c d) n = (((stack ++ task_of d n ∷ []) ++ task_of c n ∷ []) ++ task_of b n ∷ []) ++ task_of a n ∷ []

-- the atoms with the formula, where it is one
abbrev pub atoms_noted : List SignedAtom → Part → Expansion → List SignedAtom
atoms_noted found p Atom = found ++ record { holds = p.holds; atom = p.formula; metas = p.metas } ∷ []
atoms_noted found p _ = found

-- the signed atoms at these indices
abbrev pub signeds : List Tree → List SignedAtom → List Signed
signeds ts [] = []
signeds ts (a ∷ as') = signed_of ts a ∷ signeds ts as'

abbrev pub AtomsBelow : ℕ → List SignedAtom → Type 0
AtomsBelow n [] = Unit {0}
AtomsBelow n (a ∷ as') = (a.atom < n) × AtomsBelow n as'

-- a step of the walk
pub record IsTurn (ts now : List Tree) (name : ℕ → Sym) (task : Task) (found more : List SignedAtom) (stack next : List Task) : Type 0 where
  pub expansion : Expansion
  pub expands : IsExpansion now name task.part (tree_at ts task.part.formula) expansion
  pub found_is : more ≡ atoms_noted found task.part expansion
  pub stack_is : next ≡ tasks_pushed stack expansion (task.steps + 1)

-- the signed atoms of what the stack holds, from above, with room for so many steps from the start
abbrev pub to_do : List Tree → (ℕ → Sym) → ℕ → List Task → List Signed
to_do ts name room [] = []
to_do ts name room (t ∷ stack) = to_do ts name room stack ++ part_atoms ts name (room - t.steps) t.part

-- each task is in the bank, and at most n steps led to it
abbrev pub AreTasks : List Tree → ℕ → List Task → Type 0
AreTasks ts n [] = Unit {0}
AreTasks ts n (t ∷ stack) = IsPart ts t.part × (t.steps ≤ n) × AreTasks ts n stack

-- room for the universal with this body, and for as many steps as can be counted
abbrev pub room_for : Tree → ℕ
room_for body = 4 * nodes body + 2 ^ 64

-- the walk on the way, after n steps
pub record IsListing (ts now : List Tree) (name : ℕ → Sym) (u : Universal) (n : ℕ) (found : List SignedAtom) (stack : List Task) : Type 0 where
  pub atoms : signed_atoms name u ≡ signeds now found ++ to_do now name (room_for u.body) stack
  pub tasks : AreTasks now n stack
  pub below : AtomsBelow (length now) found
  pub extends : Extends ts now
  pub distinct : IsDistinct now
