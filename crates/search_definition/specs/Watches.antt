-- What the value of a formula looks at, what a formula on the branch can change, and first entries from a position on.
use Rattle.std.specs.Prelude.{◌≡◌, ◌⊎◌, ℕ, zero, suc, ◌<◌, true, false, Option, Some, None, List, [], ◌∷◌, ◌++◌, length}
use Rattle.std.proofs.Common.{get_or}
use Rattle.core_expr.specs.Tree.{Tree, true_, not_, and_, or_, imp_, iff_, eq_}
use Rattle.search_definition.specs.Branches.{Entry, Branch}
use Rattle.seq_calculus.specs.Calculus.{AllClosed}
use Rattle.search_definition.specs.Rules.{Sides, Step}
use Rattle.search_definition.specs.Rules.Sides.{Alone, Both}
use Rattle.search_definition.specs.Splits.{Splitting, splitting}

-- the formulas below f through connectives, f itself included
abbrev pub watch : Tree → List Tree
watch (not_ a) = not_ a ∷ watch a
watch (and_ x y) = and_ x y ∷ (watch x ++ watch y)
watch (or_ x y) = or_ x y ∷ (watch x ++ watch y)
watch (imp_ x y) = imp_ x y ∷ (watch x ++ watch y)
watch (iff_ x y) = iff_ x y ∷ (watch x ++ watch y)
watch f = f ∷ []

abbrev pub watch_all : List Tree → List Tree
watch_all [] = []
watch_all (f ∷ fs) = watch f ++ watch_all fs

abbrev pub watch_sides : Option Splitting → List Tree
watch_sides None = []
watch_sides (Some s) = watch_all s.left ++ watch_all s.right

-- what the entry of f watches: the formulas below its sides
abbrev pub watched : Tree → List Tree
watched f = watch_sides (splitting f)

-- the formulas whose value f on the branch can change as a whole: f, what it is the Not of, and the mirrors of both
abbrev pub touches : Tree → List Tree
touches (not_ (eq_ s t)) = not_ (eq_ s t) ∷ eq_ s t ∷ eq_ t s ∷ []
touches (not_ a) = not_ a ∷ a ∷ []
touches (eq_ s t) = eq_ s t ∷ eq_ t s ∷ []
touches f = f ∷ []

-- h is in the list
abbrev pub In : Tree → List Tree → Type 0
In h [] = ⊥
In h (x ∷ xs) = (x ≡ h) ⊎ In h xs

-- nothing is in both
abbrev pub Apart : List Tree → List Tree → Type 0
Apart xs ys = (h : Tree) → In h xs → In h ys → ⊥

abbrev pub no_entry : Entry
no_entry = record { formula = true_; live = false; count = 0 }

-- the entry with the index i
abbrev pub entry_at : Branch → ℕ → Entry
entry_at b i = get_or b i no_entry

-- no live entry before the k-th fits
abbrev pub NoneBefore : (Tree → Option Step) → ℕ → Branch → Type 0
NoneBefore rule k b = (i : ℕ) → i < k → i < length b → (entry_at b i).live ≡ true → rule (entry_at b i).formula ≡ None

-- each number is below the one before it, and below n
abbrev pub FallsFrom : ℕ → List ℕ → Type 0
FallsFrom n [] = Unit {0}
FallsFrom n (m ∷ ms) = (m < n) × FallsFrom m ms

-- the entry with the index i is live and of f
abbrev pub LiveAt : Branch → ℕ → Tree → Type 0
LiveAt [] i f = ⊥
LiveAt (e ∷ b) zero f = (e.live ≡ true) × (e.formula ≡ f)
LiveAt (e ∷ b) (suc i) f = LiveAt b i f

-- what is added is closed
abbrev pub ClosedSides : Sides → Type 0
ClosedSides (Alone fs) = AllClosed fs
ClosedSides (Both fs gs) = AllClosed fs × AllClosed gs
