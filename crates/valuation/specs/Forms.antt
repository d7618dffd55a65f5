-- The nodes of propositional formulas.
use Rattle.std.specs.Prelude.{ℕ, Bool, true, false, nat_eq}
use Rattle.std.proofs.Common.{get_or}
use Rattle.core_expr.specs.declared.head.Head.{Head}
use Rattle.core_expr.specs.declared.head.Head.TheVariants.{True, False, Not, And, Or, Imp, Iff}
use Rattle.core_expr.specs.declared.row.RowKind.{RowKind}
use Rattle.core_expr.specs.declared.row.RowKind.TheVariants.{Symbol, Plain}
use Rattle.core_expr.specs.Tree.{Tree, true_}
use Rattle.core_expr.specs.Heads.{subtrees}
use Rattle.valuation.specs.Truth.{both, negated, one_holds, agreeing}

abbrev pub is_connective_head : Head → Bool
is_connective_head True = true
is_connective_head False = true
is_connective_head Not = true
is_connective_head And = true
is_connective_head Or = true
is_connective_head Imp = true
is_connective_head Iff = true
is_connective_head h = false

-- a node of this kind with so many parts may stand in a propositional formula
abbrev pub is_connective : RowKind → ℕ → Bool
is_connective (Symbol f) parts = nat_eq parts 0
is_connective (Plain h) parts = is_connective_head h
is_connective k parts = false

-- a part of a tree
abbrev pub part_of : Tree → ℕ → Tree
part_of t k = get_or (subtrees t) k true_

-- the truth value of a node with this head, by those of its first and its second part
abbrev pub combined : Head → Bool → Bool → Bool
combined True x y = true
combined Not x y = negated x
combined And x y = both x y
combined Or x y = one_holds x y
combined Imp x y = one_holds (negated x) y
combined Iff x y = agreeing x y
combined h x y = false
