-- Equations used on other entries, and answers of rules by numbers.
use Rattle.std.specs.Prelude.{◌≡◌, ℕ, ◌<◌, Bool, true, false, nat_lt, Option, Some, None, List, [], ◌∷◌, length, map}
use Rattle.core_expr.specs.Tree.{Tree}
use Rattle.core_expr.specs.Put.{IsScoped}
use Rattle.core_expr.specs.Terms.{same}
use Rattle.seq_calculus.specs.Calculus.{AllClosed}
use Rattle.term_bank.specs.Banks.{tree_at}
use Rattle.search_definition.specs.declared.rule.Rule.{Rule}
use Rattle.search_definition.specs.declared.rule.Rule.TheVariants.{Replaced}
use Rattle.search_definition.specs.Terms.{if_so, occurs, replace}
use Rattle.search_definition.specs.Rules.{Step, Result}
use Rattle.search_definition.specs.Rules.Sides.{Alone as One}
use Rattle.search_definition.specs.Equations.{Ordered, sides_of, by_equation}
use Rattle.branch_state.specs.Shown.{Placed, placed_at}
use Rattle.tableau_search.specs.declared.finder.Found.{Found}
use Rattle.tableau_search.specs.declared.finder.Found.TheVariants.{Alone, Splits}
use Rattle.tableau_search.specs.Entries.{branch_of, new_trees}
use Rattle.equation_ranks.specs.declared.replacing.Sides.{Sides}
use Rattle.equation_ranks.specs.declared.replacing.Replacement.{Replacement}
use Rattle.equation_ranks.specs.Partners.{formula_at}

-- what is added is closed
abbrev pub AddsClosed : List Tree → Option Found → Type 0
AddsClosed ts None = Unit {0}
AddsClosed ts (Some (Alone u ns)) = AllClosed (new_trees ts ns.items)
AddsClosed ts (Some (Splits u ns ms)) = AllClosed (new_trees ts ns.items) × AllClosed (new_trees ts ms.items)

-- the rule at the entry names these formulas, works with these terms, and adds a formula
abbrev pub used_result : List Tree → ℕ → Rule → List ℕ → List ℕ → ℕ → Result
used_result ts entry r named terms added =
    record { entry = entry; step = record { rule = r; named = map (tree_at ts) named; terms = map (tree_at ts) terms; sides = One (tree_at ts added ∷ []) } }

-- the sides by their trees
abbrev pub ordered_of : List Tree → Sides → Ordered
ordered_of ts s = record { greater = tree_at ts s.greater; smaller = tree_at ts s.smaller }

-- the numbers of the sides are known, and the greater one is closed
pub record AreSides (ts : List Tree) (s : Sides) : Type 0 where
  pub greater : s.greater < length ts
  pub smaller : s.smaller < length ts
  pub closed : IsScoped 0 (tree_at ts s.greater)

-- sides by numbers exactly where the definition has sides, and they are those
abbrev pub HasSides : List Tree → Option Ordered → Option Sides → Type 0
HasSides ts o None = o ≡ None
HasSides ts o (Some s) = (o ≡ Some (ordered_of ts s)) × AreSides ts s

-- the equation q fits f: f is another formula, in which the greater side occurs
abbrev pub is_fit : Tree → Tree → Tree → Bool
is_fit q greater f = if_so (same q f) false (occurs greater f)

-- the k-th entry is live, and the equation q fits it
abbrev pub fits_at : List Tree → List Placed → Tree → Tree → ℕ → Bool
fits_at ts es q greater k = if_so (placed_at es k).live (is_fit q greater (formula_at ts es k)) false

-- the equation q fits none of the oldest n entries
abbrev pub FitsNone : List Tree → List Placed → Tree → Tree → ℕ → Type 0
FitsNone ts es q greater n = (k : ℕ) → k < n → k < length es → fits_at ts es q greater k ≡ false

-- no live entry of the oldest n, as an equation, fits another one of them
abbrev pub NoneFits : List Tree → List Placed → ℕ → Type 0
NoneFits ts es n = (i : ℕ) → i < n → i < length es → (placed_at es i).live ≡ true → (o : Ordered) → sides_of (formula_at ts es i) ≡ Some o → FitsNone ts es (formula_at ts es i) o.greater n

-- f with the smaller side for the greater side of the equation q
abbrev pub replaced_step : Tree → Ordered → Tree → Step
replaced_step q o f = record { rule = Replaced; named = f ∷ q ∷ []; terms = o.greater ∷ o.smaller ∷ []; sides = One (replace o.greater o.smaller f ∷ []) }

-- the result of a replacement
abbrev pub replaced_result : List Tree → List Placed → Replacement → Result
replaced_result ts es r = record { entry = r.place; step = replaced_step (tree_at ts r.equation) (ordered_of ts r.sides) (formula_at ts es r.place) }

-- the numbers of a replacement are known, and its place is that of a live entry
pub record IsReplacement (ts : List Tree) (es : List Placed) (r : Replacement) : Type 0 where
  pub within : r.place < length es
  pub lives : (placed_at es r.place).live ≡ true
  pub equation : r.equation < length ts
  pub sides : AreSides ts r.sides

-- a replacement exactly where the definition has a result, and it is that one
abbrev pub HasReplacement : List Tree → List Placed → Option Result → Option Replacement → Type 0
HasReplacement ts es o None = o ≡ None
HasReplacement ts es o (Some r) = (o ≡ Some (replaced_result ts es r)) × IsReplacement ts es r

-- what the i-th entry gives as an equation, where it is live
abbrev pub by_entry : List Tree → List Placed → ℕ → Option Result
by_entry ts es i = if_so (placed_at es i).live (by_equation (branch_of ts es) (formula_at ts es i)) None

-- none of the oldest k entries gives something as an equation
abbrev pub NoneReplaces : List Tree → List Placed → ℕ → Type 0
NoneReplaces ts es k = (i : ℕ) → i < k → i < length es → by_entry ts es i ≡ None

-- the first entry that the i-th one, as an equation, was not tried on, where those before n were tried on one another
abbrev pub first_untried : ℕ → ℕ → ℕ
first_untried i n = if_so (nat_lt i n) n 0
