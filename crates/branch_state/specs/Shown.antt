-- The branch that is worked on, and the branches that wait, as lists.
use Rattle.std.specs.Prelude.{◌≡◌, ℕ, zero, suc, ◌<◌, Bool, true, false, nat_eq, List, [], ◌∷◌, ◌++◌, length, take}
use Rattle.std.proofs.Common.{get_or}
use Rattle.branch_book.specs.declared.item.Item.{Item}
use Rattle.branch_state.specs.declared.parts.New.{New}

-- An entry: the number of its formula, its class, whether it is live, its count of instances, and its needs.
pub record Placed : Type 0 where
  pub formula : ℕ
  pub class : ℕ
  pub live : Bool
  pub count : ℕ
  pub needs : List ℕ

-- What contracts see: the branch that is worked on, those that wait, and the sets of needs that are kept.
pub record Shown : Type 0 where
  pub now : List Placed
  pub waits : List (List Placed)
  pub sets : List (List ℕ)

-- the set with this number
abbrev pub set_at : List (List ℕ) → ℕ → List ℕ
set_at ss i = get_or ss i []

-- what stands past the last entry
abbrev pub no_place : Placed
no_place = record { formula = 0; class = 0; live = false; count = 0; needs = [] }

-- the i-th entry
abbrev pub placed_at : List Placed → ℕ → Placed
placed_at es i = get_or es i no_place

-- the formula has an entry
abbrev pub stands : List Placed → ℕ → Bool
stands [] f = false
stands (e ∷ es) f = elim (nat_eq e.formula f) [ true ↦ true | false ↦ stands es f ]

-- a live entry
abbrev pub fresh : List ℕ → New → Placed
fresh needs n = record { formula = n.formula; class = n.class; live = true; count = 0; needs = needs }

-- the formula comes to the end, where it does not stand
abbrev pub with_new : List ℕ → List Placed → New → List Placed
with_new needs es n = elim (stands es n.formula) [ true ↦ es | false ↦ es ++ fresh needs n ∷ [] ]

-- the formulas come to the end one after the other, where they do not stand
abbrev pub with_all : List ℕ → List Placed → List New → List Placed
with_all needs es [] = es
with_all needs es (n ∷ ns) = with_all needs (with_new needs es n) ns

-- the i-th entry is dead from now on
abbrev pub dead : List Placed → ℕ → List Placed
dead [] i = []
dead (e ∷ es) zero = record { formula = e.formula; class = e.class; live = false; count = e.count; needs = e.needs } ∷ es
dead (e ∷ es) (suc i) = e ∷ dead es i

-- the count of the i-th entry is one more
abbrev pub raised : List Placed → ℕ → List Placed
raised [] i = []
raised (e ∷ es) zero = record { formula = e.formula; class = e.class; live = e.live; count = suc e.count; needs = e.needs } ∷ es
raised (e ∷ es) (suc i) = e ∷ raised es i

-- another branch is worked on
abbrev pub moved : Shown → List Placed → Shown
moved s es = record { now = es; waits = s.waits; sets = s.sets }

-- a formula comes, with the set with this number
abbrev pub added : Shown → New → ℕ → Shown
added s n l = moved s (with_new (set_at s.sets l) s.now n)

-- the formulas come, with the set with this number
abbrev pub all_added : Shown → List New → ℕ → Shown
all_added s ns l = moved s (with_all (set_at s.sets l) s.now ns)

-- the entry dies
abbrev pub killed : Shown → ℕ → Shown
killed s i = moved s (dead s.now i)

-- the count of the entry is one more
abbrev pub counted : Shown → ℕ → Shown
counted s i = moved s (raised s.now i)

-- a set more
abbrev pub kept_set : Shown → List ℕ → Shown
kept_set s ks = record { now = s.now; waits = s.waits; sets = s.sets ++ ks ∷ [] }

-- the branch with these formulas added waits
abbrev pub put_off : Shown → List New → ℕ → Shown
put_off s ns l = record { now = s.now; waits = s.waits ++ with_all (set_at s.sets l) s.now ns ∷ []; sets = s.sets }

-- the branch that waits at this place is worked on, those before it wait, and the first n sets are left
abbrev pub reopened : Shown → ℕ → ℕ → Shown
reopened s k n = record { now = get_or s.waits k []; waits = take k s.waits; sets = take n s.sets }

-- the same for some number of sets
abbrev pub Reopens : ℕ → Shown → Shown → Type 0
Reopens k s t = (n : ℕ) × (t ≡ reopened s k n)

-- each number is below the one before it, and below n
abbrev pub FallsBelow : ℕ → List ℕ → Type 0
FallsBelow n [] = Unit {0}
FallsBelow n (m ∷ ms) = (m < n) × FallsBelow m ms

-- each number is below the one before it
abbrev pub Falls : List ℕ → Type 0
Falls [] = Unit {0}
Falls (m ∷ ms) = FallsBelow m ms

-- the entry without its needs
abbrev pub item_of : Placed → Item
item_of e = record { formula = e.formula; class = e.class; live = e.live; count = e.count }

-- the i-th entry is live and of the class c
pub record IsAlive (es : List Placed) (c i : ℕ) : Type 0 where
  pub within : i < length es
  pub lives : (placed_at es i).live ≡ true
  pub classed : (placed_at es i).class ≡ c

-- the needs of the formula's entry
abbrev pub needs_at : List Placed → ℕ → List ℕ
needs_at [] f = []
needs_at (e ∷ es) f = elim (nat_eq e.formula f) [ true ↦ e.needs | false ↦ needs_at es f ]

-- the i-th entry stays live or dies
abbrev pub live_at : Bool → List Placed → ℕ → List Placed
live_at true es i = es
live_at false es i = dead es i

-- the count of the i-th entry rises or not
abbrev pub count_at : Bool → List Placed → ℕ → List Placed
count_at true es i = raised es i
count_at false es i = es

-- the i-th entry after a rule used it
abbrev pub used_at : Bool → Bool → List Placed → ℕ → List Placed
used_at stays rises es i = count_at rises (live_at stays es i) i
