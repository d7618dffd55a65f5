-- Bindings by indices.
use Rattle.std.specs.Prelude.{ℕ, ◌<◌, List, [], ◌∷◌}
use Rattle.core_expr.specs.Tree.{Tree}
use Rattle.core_expr.specs.Nodes.{canon_sym}
use Rattle.unifier_definition.specs.Unify.{Binding}
use Rattle.term_bank.specs.Banks.{tree_at}
use Rattle.unify_meta.specs.declared.binding.BoundMeta.{BoundMeta}

-- the bindings with these numbers and the trees at these indices
abbrev pub bindings : List Tree → List BoundMeta → List Binding
bindings ts [] = []
bindings ts (b ∷ bs) = record { name = canon_sym b.name 0; term = tree_at ts b.term } ∷ bindings ts bs

-- the indices of the terms are below n
abbrev pub TermsBelow : ℕ → List BoundMeta → Type 0
TermsBelow n [] = Unit {0}
TermsBelow n (b ∷ bs) = (b.term < n) × TermsBelow n bs
