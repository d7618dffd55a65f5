-- The canonical forms of the leaves that are to be proved.
use Rattle.std.specs.Prelude.{List, [], ◌∷◌, flat_map}
use Rattle.obligation.specs.declared.obligation.Obligation.{Obligation}
use Rattle.proof_contexts.specs.declared.leaf.Leaf.{Leaf}
use Rattle.proof_contexts.specs.declared.leaf.LeafKind.{LeafKind}
use Rattle.proof_contexts.specs.declared.leaf.LeafKind.TheVariants as kind
use Rattle.proof_contexts.specs.Canonical.{obligation_canon}
use Rattle.canonical_form.specs.declared.form.Named.{Named}
use Rattle.canonical_form.specs.Named.{names_of}
use Rattle.theorem_leaves.specs.declared.chapter.TheoremLeaves.{TheoremLeaves}
use Rattle.theorem_leaves.specs.declared.chapter.Chapter.{Chapter}

-- an obligation's canonical form, with its own symbols
abbrev pub named : Obligation → Named
named o = record { canon = obligation_canon o; names = names_of o }

abbrev pub form_of_kind : LeafKind → List Named
form_of_kind (kind.Search o) = named o ∷ []
form_of_kind _ = []

-- that of a leaf, where it is to be proved
abbrev pub form_of_leaf : Leaf → List Named
form_of_leaf l = form_of_kind l.kind

abbrev pub forms_of_theorem : TheoremLeaves → List Named
forms_of_theorem t = flat_map form_of_leaf t.leaves

abbrev pub forms_of_chapter : Chapter → List Named
forms_of_chapter c = flat_map forms_of_theorem c.theorems

-- those of all leaves of modules, in the order of the report
abbrev pub forms_of : List Chapter → List Named
forms_of cs = flat_map forms_of_chapter cs
