-- What is proved of leaves. The statement is the contract of the function of src/lib.rt.
use Rattle.std.specs.Prelude.{◌≡◌, true, List, Ok}
use Rattle.core_expr.specs.declared.canon.Canon.{Canon}
use Rattle.plain_syntax.specs.Plain.{Module}
use Rattle.symbol_table.specs.Scoped.{Table}
use Rattle.module_scope.specs.Resolution.{resolution}
use Rattle.name_places.specs.Places.{PlacesDiffer}
use Rattle.theorem_leaves.specs.Chapters.{chapters_of}
use Rattle.leaf_prover.specs.Forms.{is_form}
use Rattle.leaf_forms.specs.Leaves.{OfChapters}

-- The search can take it: its facts and its goal are closed, their symbols are those of a canonical form, and none has
-- a temporal mark.
abbrev pub IsForm : Canon → Type 0
IsForm c = is_form c ≡ true

-- Of modules whose names are resolved, and of which none has two names at one place: each leaf of a theorem that is to be proved
-- has a canonical form that the search can take.
abbrev pub LeavesAreForms : Type 0
LeavesAreForms =
    (ms : List Module) (t : Table) → resolution ms ≡ Ok t → PlacesDiffer ms → OfChapters IsForm (chapters_of ms t)
