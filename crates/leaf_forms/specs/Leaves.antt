-- Facts on the canonical forms of leaves, of all leaves of a theorem, and of all theorems of modules.
use Rattle.std.specs.Prelude.{List, [], ◌∷◌}
use Rattle.core_expr.specs.declared.canon.Canon.{Canon}
use Rattle.proof_contexts.specs.declared.leaf.Leaf.{Leaf}
use Rattle.proof_contexts.specs.declared.leaf.LeafKind.{LeafKind}
use Rattle.proof_contexts.specs.declared.leaf.LeafKind.TheVariants as kind
use Rattle.proof_contexts.specs.Canonical.{obligation_canon}
use Rattle.theorem_leaves.specs.declared.chapter.TheoremLeaves.{TheoremLeaves}
use Rattle.theorem_leaves.specs.declared.chapter.Chapter.{Chapter}

-- a fact on the canonical form of a leaf, where the leaf is to be proved
abbrev pub OfKind : (Canon → Type 0) → LeafKind → Type 0
OfKind P (kind.Search o) = P (obligation_canon o)
OfKind P _ = Unit {0}

-- the same of all leaves of a theorem
abbrev pub OfLeaves : (Canon → Type 0) → List Leaf → Type 0
OfLeaves P [] = Unit {0}
OfLeaves P (l ∷ ls) = OfKind P l.kind × OfLeaves P ls

-- the same of all leaves of theorems
abbrev pub OfTheorems : (Canon → Type 0) → List TheoremLeaves → Type 0
OfTheorems P [] = Unit {0}
OfTheorems P (t ∷ ts) = OfLeaves P t.leaves × OfTheorems P ts

-- the same of all leaves of modules
abbrev pub OfChapters : (Canon → Type 0) → List Chapter → Type 0
OfChapters P [] = Unit {0}
OfChapters P (c ∷ cs) = OfTheorems P c.theorems × OfChapters P cs
