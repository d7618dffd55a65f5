-- What is proved of names. Each statement is the contract of a function of src/lib.rt.
use Rattle.std.specs.Prelude.{◌≡◌, ℕ, ◌+◌, ◌≤◌, Bool, List, [], ◌++◌, length}
use Rattle.tla_ast.specs.declared.tree.Decl.{Decl}
use Rattle.symbol_table.specs.declared.entry.Entry.{Entry}
use Rattle.symbol_table.specs.declared.entry.EntrySort.TheVariants as sorts
use Rattle.plain_syntax.specs.Plain.{Term}
use Rattle.module_scope.specs.Names.{Book, Walk, entries_of, symbols_of, means, inside, each, declare_name, names, ◌>>◌}
use Rattle.prime_expand.specs.Core.{core_of, bodies, flags_in}
use Rattle.prime_expand.specs.Laws.{Holds, IsOver}
use Rattle.name_places.specs.Places.{places, decl_places}
use Rattle.proof_assembly.specs.States.{Free, Known, Later, IsFine, is_allowed}

-- the walk over a definition's parameters and text; the definition has the next number after it
abbrev pub body_names : List Decl → Term → Walk
body_names ps t = inside (each (declare_name sorts.Bound 0) ps >> names t)

-- what a walk over the names at these places leaves, where no fault is met: numbers only grow, and what was known stays
abbrev pub Grows : Walk → Type 0
Grows f = (b c : Book) → Later (f b) c → Later b c × (length (entries_of b) ≤ length (entries_of (f b)))

abbrev pub NumbersGrow : Type 0
NumbersGrow = ((t : Term) → Grows (names t)) × ((ps : List Decl) (t : Term) → Grows (body_names ps t))

-- After a walk without faults each name of an expression is bound in it, or means an entry that was in scope before, and that fits: in
-- sort, in the number of arguments, and in what is primed. Allowed may be the numbers in scope, or those below a definition's own.
abbrev pub NamesAreFine : Type 0
NamesAreFine =
    (allowed : ℕ → Bool) (t : Term) (b c : Book) → Known allowed b → Free (symbols_of b) (places t) → Later (names t b) c
    → IsFine (means c) (entries_of c) allowed [] t

abbrev pub BodiesAreFine : Type 0
BodiesAreFine =
    (allowed : ℕ → Bool) (ps : List Decl) (t : Term) (b c : Book) → Known allowed b → Free (symbols_of b) (decl_places ps ++ places t) → Later (body_names ps t b) c
    → IsFine (means c) (entries_of c) allowed ps t

-- so the core of an expression is closed, over symbols of what was in scope
abbrev pub CoresAreInScope : Type 0
CoresAreInScope =
    (allowed : ℕ → Bool) (t : Term) (b c : Book) → Known allowed b → Free (symbols_of b) (places t) → Later (names t b) c
    → IsOver (Holds (is_allowed (entries_of c) allowed)) 0 (core_of (means c) (entries_of c) t)

-- and the bodies of a definition are over its parameters and symbols of what was in scope
abbrev pub BodiesAreInScope : Type 0
BodiesAreInScope =
    (allowed : ℕ → Bool) (e : Entry) (ps : List Decl) (t : Term) (b c : Book) → Known allowed b → Free (symbols_of b) (decl_places ps ++ places t) → Later (body_names ps t b) c → length e.primed ≡ length ps
    → IsOver (Holds (is_allowed (entries_of c) allowed)) (length ps + flags_in (means c) (entries_of c) e.primed) (bodies (means c) (entries_of c) e ps t)
