-- What stands for a leaf, by what the root of a subtree shows.
use Rattle.std.proofs.Common.{◌≡◌, ℕ, suc, length, refl, sym, ap, ◌∙◌}
use Rattle.std.specs.Prelude.{None, []}
use Rattle.std.specs.Borrow.{Bor}
use Rattle.std.specs.Prelude.{List}
use Rattle.core_expr.specs.declared.head.Sym.{Sym}
use Rattle.core_expr.specs.declared.row.RowKind.{RowKind}
use Rattle.core_expr.specs.declared.row.RowKind.TheVariants as kind
use Rattle.core_expr.specs.Tree.{Tree, Parts, size}
use Rattle.core_expr.specs.Tree.Tree.{bound, app, node, bind}
use Rattle.core_expr.specs.Tree.Parts.{end, part}
use Rattle.core_expr.specs.Heads.{subtrees, list_of, parts_of, first}
use Rattle.core_expr.specs.Places.{kind_of, root_numbers}
use Rattle.expr_parts.specs.declared.change.Change.TheVariants.{Bind, Fill}
use Rattle.expr_parts.specs.Rebuilt.{bound_for, filled_for, changed}

length-list_of : (ps : Parts) → length (list_of ps) ≡ size ps
length-list_of end = refl
length-list_of (part e ps) = ap suc (length-list_of ps)

pub bind_is : (x : Tree) (c f : Sym) (n d : ℕ) → kind_of x ≡ kind.Symbol f → n ≡ length (subtrees x) → bound_for c f n d ≡ changed (Bind c) d x
bind_is (bound i) c f n d k p = cc
bind_is (app g ps) c f n d k p = λ i. bound_for c (symbol_in (sym k i)) ((p ∙ length-list_of ps) i) d
  where
    symbol_in : RowKind → Sym
    symbol_in (kind.Symbol h) = h
    symbol_in _ = g
bind_is (node h ns ps) c f n d k p = cc
bind_is (bind b ps e) c f n d k p = cc

pub fill_is : (x : Tree) (ts : Bor (List Tree)) (d i : ℕ) → kind_of x ≡ kind.Bound → i ≡ first (root_numbers x) → filled_for (parts_of ts.now) i d ≡ changed (Fill ts) d x
fill_is (bound j) ts d i k e = ap (λ j. filled_for (parts_of ts.now) j d) e
fill_is (app g ps) ts d i k e = cc
fill_is (node h ns ps) ts d i k e = cc
fill_is (bind b ps y) ts d i k e = cc

pub not_bound : (x : Tree) (c : Sym) (d : ℕ) → ((f : Sym) → kind_of x ≡ kind.Symbol f → ⊥) → None ≡ changed (Bind c) d x
not_bound (bound i) c d h = refl
not_bound (app g ps) c d h = absurd (h g refl)
not_bound (node m ns ps) c d h = refl
not_bound (bind b ps e) c d h = refl

pub not_filled : (x : Tree) (ts : Bor (List Tree)) (d : ℕ) → (kind_of x ≡ kind.Bound → ⊥) → None ≡ changed (Fill ts) d x
not_filled (bound j) ts d h = absurd (h refl)
not_filled (app g ps) ts d h = refl
not_filled (node m ns ps) ts d h = refl
not_filled (bind b ps e) ts d h = refl
