-- The lists of the live entries of each class.
use Rattle.std.specs.Prelude.{◌≡◌, ◌⊎◌, ℕ, zero, suc, ◌+◌, ◌-◌, ◌<◌, ◌≤◌, Bool, true, false, nat_eq, List, length, slice_set}
use Rattle.std.proofs.Common.{get_or}
use Rattle.branch_book.specs.declared.item.Item.{Item}
use Rattle.branch_book.specs.declared.links.Links.{Links}

-- no entry, as a link to the younger side
abbrev pub none : ℕ
none = 18446744073709551615

-- a dead entry, past the end
abbrev pub no_item : Item
no_item = record { formula = 0; class = 0; live = false; count = 0 }

-- the i-th entry
abbrev pub item_at : List Item → ℕ → Item
item_at xs i = get_or xs i no_item

-- the i-th entry is live and of the class c
pub record IsIn (xs : List Item) (c i : ℕ) : Type 0 where
  pub within : i < length xs
  pub lives : (item_at xs i).live ≡ true
  pub classed : (item_at xs i).class ≡ c

-- a stop of the class c: 0, its start, or one more than a live entry of the class
abbrev pub IsStop : List Item → ℕ → ℕ → Type 0
IsStop xs c p = 0 < p → IsIn xs c (p - 1)

-- a halt of the class c: its end, or a live entry of the class
abbrev pub IsHalt : List Item → ℕ → ℕ → Type 0
IsHalt xs c q = (q ≡ none) ⊎ IsIn xs c q

-- a stop and a halt with no live entry of the class from the one up to the other
pub record Adjacent (xs : List Item) (c p q : ℕ) : Type 0 where
  pub order : p ≤ q
  pub stop : IsStop xs c p
  pub halt : IsHalt xs c q
  pub gap : (j : ℕ) → p ≤ j → j < q → IsIn xs c j → ⊥

-- The links: of each class the oldest and the youngest entry, and of each entry the next younger and the next older one.
pub record Chain : Type 0 where
  pub firsts : List ℕ
  pub lasts : List ℕ
  pub afters : List ℕ
  pub befores : List ℕ

-- the links of a book's fields
abbrev pub chain_of : Links → Chain
chain_of l = record { firsts = l.firsts.items; lasts = l.lasts.items; afters = l.afters.items; befores = l.befores.items }

-- what stands after a stop
abbrev pub next_of : Chain → ℕ → ℕ → ℕ
next_of l c zero = get_or l.firsts c 0
next_of l c (suc k) = get_or l.afters k 0

-- what stands before a halt: before the end of the class c, where the test says so, or before the entry q
abbrev pub prev_if : Chain → ℕ → ℕ → Bool → ℕ
prev_if l c q true = get_or l.lasts c 0
prev_if l c q false = get_or l.befores q 0

-- what stands before a halt
abbrev pub prev_of : Chain → ℕ → ℕ → ℕ
prev_of l c q = prev_if l c q (nat_eq q none)

-- v after a stop
abbrev pub with_after : Chain → ℕ → ℕ → ℕ → Chain
with_after l c zero v = record { firsts = slice_set l.firsts c v; lasts = l.lasts; afters = l.afters; befores = l.befores }
with_after l c (suc k) v = record { firsts = l.firsts; lasts = l.lasts; afters = slice_set l.afters k v; befores = l.befores }

-- v before a halt: before the end of the class c, where the test says so, or before the entry q
abbrev pub with_before_if : Chain → ℕ → ℕ → ℕ → Bool → Chain
with_before_if l c q v true = record { firsts = l.firsts; lasts = slice_set l.lasts c v; afters = l.afters; befores = l.befores }
with_before_if l c q v false = record { firsts = l.firsts; lasts = l.lasts; afters = l.afters; befores = slice_set l.befores q v }

-- v before a halt
abbrev pub with_before : Chain → ℕ → ℕ → ℕ → Chain
with_before l c q v = with_before_if l c q v (nat_eq q none)

-- the lists have room for 68 classes and all entries
pub record HasRoom (xs : List Item) (l : Chain) : Type 0 where
  pub firsts : length l.firsts ≡ 68
  pub lasts : length l.lasts ≡ 68
  pub afters : length xs ≤ length l.afters
  pub befores : length xs ≤ length l.befores
  pub small : length xs ≤ none
  pub classes : (i : ℕ) → i < length xs → (item_at xs i).class < 68

-- both directions of every link: from a stop to the halt after it, and from a halt to the stop before it
pub record IsLinked (xs : List Item) (l : Chain) : Type 0 where
  pub next : (c p : ℕ) → c < 68 → IsStop xs c p → Adjacent xs c p (next_of l c p)
  pub prev : (c q : ℕ) → c < 68 → IsHalt xs c q → Adjacent xs c (prev_of l c q) q

-- the links after an entry between these two has gone
abbrev pub unlinked : Chain → ℕ → ℕ → ℕ → Chain
unlinked l c p q = with_before (with_after l c p q) c q p

-- the links after the entry e has come between these two
abbrev pub relinked : Chain → ℕ → ℕ → ℕ → ℕ → Chain
relinked l c e p q = with_before (with_after (with_before (with_after l c p e) c e p) c (e + 1) q) c q (e + 1)
