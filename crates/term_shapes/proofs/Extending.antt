-- What holds of the trees of a bank holds of them when it has more.
use Rattle.std.proofs.Common.{◌≡◌, ℕ, ◌<◌, ◌≤◌, List, length, ap, ◌∙◌, arith, length-append}
use Rattle.std.proofs.lemmas.List.{get_or_append_left}
use Rattle.core_expr.specs.Tree.{Tree, true_}
use Rattle.core_expr.specs.Nodes.{AreBelow, picked}
use Rattle.term_bank.specs.Banks.{Extends, HasTree, tree_at}
use Rattle.term_bank.proofs.TableLaws.{picked-extend, AreBelow-more}

pub tree-extend : (ts ts' : List Tree) (i : ℕ) → Extends ts ts' → i < length ts → tree_at ts' i ≡ tree_at ts i
tree-extend ts ts' i x l = ap (λ us. tree_at us i) x.1 ∙ get_or_append_left ts x.0 true_ i l

pub longer : (ts ts' : List Tree) → Extends ts ts' → length ts ≤ length ts'
longer ts ts' x = omega (arith, ap length x.1, length-append ts x.0)

pub below-extend : (ts ts' : List Tree) (i : ℕ) → Extends ts ts' → i < length ts → i < length ts'
below-extend ts ts' i x l = let m = longer ts ts' x in omega arith

pub all_below-extend : (ts ts' : List Tree) (is : List ℕ) → Extends ts ts' → AreBelow (length ts) is → AreBelow (length ts') is
all_below-extend ts ts' is x b = AreBelow-more (length ts) (length ts') is (longer ts ts' x) b

pub has-extend : (ts ts' : List Tree) (i : ℕ) (t : Tree) → Extends ts ts' → HasTree ts i t → HasTree ts' i t
has-extend ts ts' i t x h = record { within = below-extend ts ts' i x h.within; tree = tree-extend ts ts' i x h.within ∙ h.tree }

pub picked-same : (ts ts' : List Tree) (is : List ℕ) → Extends ts ts' → AreBelow (length ts) is → picked ts' is ≡ picked ts is
picked-same ts ts' is x b = ap (λ us. picked us is) x.1 ∙ picked-extend ts x.0 is b
