-- Leaves as the code makes them.
use Rattle.std.proofs.Common.{◌≡◌, ℕ, true, false, cond, List, ◌∷◌, ap}
use Rattle.core_expr.specs.Tree.{Tree}
use Rattle.tla_ast.specs.declared.place.Place.{Place}
use Rattle.obligation.specs.declared.obligation.Definition.{Definition}
use Rattle.proof_contexts.specs.declared.leaf.LeafKind.TheVariants as kind
use Rattle.proof_contexts.specs.Leaves.{a_leaf, is_temporal, obligation, leaf}

pub leaf_temporal : (table : List Definition) (p : Place) (fs : List Tree) (g : Tree) (u : List ℕ) → true ≡ is_temporal table u (g ∷ fs) → a_leaf p kind.Temporal ≡ leaf table p fs g u
leaf_temporal table p fs g u h = ap (λ b. a_leaf p (cond b kind.Temporal (kind.Search (obligation table fs g u)))) h

pub leaf_plain : (table : List Definition) (p : Place) (fs : List Tree) (g : Tree) (u : List ℕ) → false ≡ is_temporal table u (g ∷ fs) → a_leaf p (kind.Search (obligation table fs g u)) ≡ leaf table p fs g u
leaf_plain table p fs g u h = ap (λ b. a_leaf p (cond b kind.Temporal (kind.Search (obligation table fs g u)))) h
