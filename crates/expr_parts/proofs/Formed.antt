-- The parts of a well-formed expression are well formed.
use Rattle.std.proofs.Common.{◌≡◌, ℕ, zero, suc, ◌<◌, ◌+◌, ◌&&◌, true, List, [], ◌∷◌, ◌++◌, length, slice_index_or, nat_eq, sym, subst, arith}
use Rattle.std.proofs.lemmas.Bool.{and_parts}
use Rattle.core_expr.specs.Tree.{Tree, Parts, size, true_}
use Rattle.core_expr.specs.Tree.Tree.{bound, app, node, bind}
use Rattle.core_expr.specs.Tree.Parts.{end, part}
use Rattle.core_expr.specs.Heads.{subtrees, list_of, plain_fits, table_numbers, binder_arity, is_well_formed, are_well_formed, IsWellFormed}

-- each of the trees is well formed
abbrev pub Forms : List Tree → Type 0
Forms [] = Unit {0}
Forms (t ∷ ts) = IsWellFormed t × Forms ts

of_parts : (ps : Parts) → are_well_formed ps ≡ true → Forms (list_of ps)
of_parts end h = tt
of_parts (part e ps) h = let p = and_parts (is_well_formed e) (are_well_formed ps) h in (p.0, of_parts ps p.1)

with_last : (ts : List Tree) (t : Tree) → Forms ts → IsWellFormed t → Forms (ts ++ t ∷ [])
with_last [] t h l = (l, tt)
with_last (u ∷ ts) t h l = (h.0, with_last ts t h.1 l)

pub of_subtrees : (t : Tree) → IsWellFormed t → Forms (subtrees t)
of_subtrees (bound i) h = tt
of_subtrees (app f ps) h = of_parts ps (and_parts (nat_eq (size ps) f.arity) (are_well_formed ps) h).1
of_subtrees (node m ns ps) h = of_parts ps (and_parts (plain_fits m (table_numbers m ns (size ps)) (size ps)) (are_well_formed ps) h).1
of_subtrees (bind b ps e) h =
    let p = and_parts (are_well_formed ps) (is_well_formed e) (and_parts (nat_eq (size ps + 1) (binder_arity b)) (are_well_formed ps && is_well_formed e) h).1 in
    with_last (list_of ps) e (of_parts ps p.0) p.1

pub at_place : (ts : List Tree) (k : ℕ) → Forms ts → k < length ts → IsWellFormed (slice_index_or ts k true_)
at_place [] k h l = absurd (omega arith)
at_place (t ∷ ts) zero h l = h.0
at_place (t ∷ ts) (suc k) h l = at_place ts k h.1 (omega arith)

-- a part that stands at a place is well formed
pub part_formed : (t x : Tree) (k : ℕ) → IsWellFormed t → k < length (subtrees t) → x ≡ slice_index_or (subtrees t) k true_ → IsWellFormed x
part_formed t x k h l e = subst IsWellFormed (sym e) (at_place (subtrees t) k (of_subtrees t h) l)
