-- Needs: sets of the numbers of splits, as strictly falling lists, one beside each entry of a branch.
use Rattle.std.specs.Prelude.{ℕ, Bool, true, false, nat_lt, nat_eq, List, [], ◌∷◌, ◌++◌}
use Rattle.core_expr.specs.Tree.{Tree}
use Rattle.core_expr.specs.Terms.{same}
use Rattle.search_definition.specs.Terms.{if_so, either}
use Rattle.search_definition.specs.Branches.{Branch}

-- n is in the set
abbrev pub contains : List ℕ → ℕ → Bool
contains [] n = false
contains (m ∷ ms) n = either (nat_eq m n) (contains ms n)

-- n put in before the first that is not greater, and what is behind it merged by more
abbrev pub merge_into : ℕ → (List ℕ → List ℕ) → List ℕ → List ℕ
merge_into n more [] = n ∷ more []
merge_into n more (k ∷ ks) = if_so (nat_lt n k) (k ∷ merge_into n more ks) (if_so (nat_eq n k) (n ∷ more ks) (n ∷ more (k ∷ ks)))

-- the union of two falling lists: they are merged
abbrev pub union : List ℕ → List ℕ → List ℕ
union [] ks = ks
union (n ∷ ns) ks = merge_into n (union ns) ks

-- the set without n
abbrev pub without : List ℕ → ℕ → List ℕ
without [] n = []
without (m ∷ ms) n = if_so (nat_eq m n) (without ms n) (m ∷ without ms n)

-- the needs of the entry of f; needs has a set for each entry
abbrev pub needs_at : Branch → List (List ℕ) → Tree → List ℕ
needs_at [] needs f = []
needs_at (e ∷ b) [] f = []
needs_at (e ∷ b) (u ∷ needs) f = if_so (same e.formula f) u (needs_at b needs f)

-- the needs of all these formulas
abbrev pub needs_of : Branch → List (List ℕ) → List Tree → List ℕ
needs_of b needs [] = []
needs_of b needs (f ∷ fs) = union (needs_at b needs f) (needs_of b needs fs)

-- a set for each of the formulas that are new
abbrev pub with_news : List (List ℕ) → List ℕ → List Bool → List (List ℕ)
with_news needs u [] = needs
with_news needs u (true ∷ ns) = with_news (needs ++ u ∷ []) u ns
with_news needs u (false ∷ ns) = with_news needs u ns
