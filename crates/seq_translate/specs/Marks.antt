-- Marks of formulas, by their numbers.
use Rattle.std.specs.Prelude.{◌≡◌, ℕ, ◌<◌, Bool, true, false, ◌||◌, List, slice_set, slice_index_or, length}
use Rattle.std.specs.List.{fold}
use Rattle.std.proofs.Common.{get_or}
use Rattle.core_expr.specs.Tree.{Tree, true_}

abbrev pub set_mark : List Bool → ℕ → List Bool
set_mark m n = slice_set m n true

abbrev pub clear_mark : List Bool → ℕ → List Bool
clear_mark m n = slice_set m n false

abbrev pub or_mark : List Bool → Bool → ℕ → Bool
or_mark m x n = x || slice_index_or m n false

-- all of these are marked, and none of them
abbrev pub set_marks : List Bool → List ℕ → List Bool
set_marks m ns = fold set_mark m ns

abbrev pub clear_marks : List Bool → List ℕ → List Bool
clear_marks m ns = fold clear_mark m ns

-- whether one of these is marked
abbrev pub any_mark : List Bool → List ℕ → Bool
any_mark m ns = fold (or_mark m) false ns

-- the numbers are marked as their formulas are
abbrev pub AreMarks : List Tree → List Bool → (Tree → Bool) → Type 0
AreMarks ts m f = (length m ≡ length ts) × ((i : ℕ) → i < length ts → get_or m i true ≡ f (get_or ts i true_))
