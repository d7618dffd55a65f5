-- What the parts keep.
use Rattle.std.specs.Prelude.{ℕ, ◌<◌, ◌≤◌, List, [], ◌∷◌, length, map, take}
use Rattle.std.proofs.Common.{get_or}
use Rattle.branch_book.specs.declared.item.Item.{Item}
use Rattle.branch_book.specs.States.{Seen, undone}
use Rattle.branch_state.specs.declared.parts.New.{New}
use Rattle.branch_state.specs.declared.parts.Waiting.{Waiting}
use Rattle.branch_state.specs.declared.parts.Parts.{Parts}
use Rattle.branch_state.specs.Shown.{Placed, Shown, Falls, set_at, with_all}

-- the state of the book with this number
abbrev pub state : Seen → ℕ → List Item
state s n = (undone s n).now

-- the entry with the set with this number
abbrev pub placed : List (List ℕ) → ℕ → Item → Placed
placed ss l x = record { formula = x.formula; class = x.class; live = x.live; count = x.count; needs = set_at ss l }

-- the entries with their needs, by the number of each one's set
abbrev pub entries : List (List ℕ) → List ℕ → List Item → List Placed
entries ss ls [] = []
entries ss [] (x ∷ xs) = []
entries ss (l ∷ ls) (x ∷ xs) = placed ss l x ∷ entries ss ls xs

-- A branch that waits.
pub record Wait : Type 0 where
  pub mark : ℕ
  pub added : List New
  pub needs : ℕ
  pub sets : ℕ

-- the branch that waits as a value
abbrev pub wait_of : Waiting → Wait
wait_of w = record { mark = w.mark; added = w.added.items; needs = w.needs; sets = w.sets }

-- what stands past the last branch that waits
abbrev pub no_wait : Wait
no_wait = record { mark = 0; added = []; needs = 0; sets = 0 }

-- the k-th branch that waits
abbrev pub wait_at : List Wait → ℕ → Wait
wait_at ws k = get_or ws k no_wait

-- the i-th formula that is to be added
abbrev pub new_at : List New → ℕ → New
new_at ns i = get_or ns i (record { formula = 0; class = 0 })

-- each has a class
abbrev pub AreClassed : List New → Type 0
AreClassed ns = (i : ℕ) → i < length ns → (new_at ns i).class < 68

-- The parts as lists.
pub record Core : Type 0 where
  pub book : Seen
  pub links : List ℕ
  pub sets : List (List ℕ)
  pub waits : List Wait

-- the parts as lists
abbrev pub core_of : Parts → Core
core_of p = record { book = p.book; links = p.links.items; sets = map (λ v. v.items) p.sets.items; waits = map wait_of p.waits.items }

-- the branch that waits
abbrev pub waiting : Seen → List ℕ → List (List ℕ) → Wait → List Placed
waiting b ls ss w = with_all (set_at ss w.needs) (entries ss ls (state b w.mark)) w.added

-- what contracts see of those lists
abbrev pub shown_of : Core → Shown
shown_of c = record { now = entries c.sets c.links c.book.now; waits = map (waiting c.book c.links c.sets) c.waits; sets = c.sets }

-- the parts with the state m of the book, the links of its entries and the first n sets
abbrev pub taken_back : Core → ℕ → ℕ → Core
taken_back c m n = record { book = undone c.book m; links = take (length (undone c.book m).now) c.links; sets = take n c.sets; waits = c.waits }

-- Earlier states have no more entries than later ones. Each entry has the number of a set that is kept, and the sets fall. The
-- branches that wait have states that rise, and all that they need is among the sets that there were.
pub record IsHeld (c : Core) : Type 0 where
  pub rising : (i j : ℕ) → i ≤ j → length (state c.book i) ≤ length (state c.book j)
  pub room : length c.book.now ≤ length c.links
  pub marks : (k : ℕ) → k < length c.waits → (wait_at c.waits k).mark ≤ length c.book.past
  pub order : (j k : ℕ) → j ≤ k → k < length c.waits → (wait_at c.waits j).mark ≤ (wait_at c.waits k).mark
  pub links : (i : ℕ) → i < length c.links → get_or c.links i 0 < length c.sets
  pub falls : (i : ℕ) → i < length c.sets → Falls (set_at c.sets i)
  pub needs : (k : ℕ) → k < length c.waits → (wait_at c.waits k).needs < (wait_at c.waits k).sets
  pub cuts : (k : ℕ) → k < length c.waits → (wait_at c.waits k).sets ≤ length c.sets
  pub grows : (j k : ℕ) → j ≤ k → k < length c.waits → (wait_at c.waits j).sets ≤ (wait_at c.waits k).sets
  pub below : (k i : ℕ) → k < length c.waits → i < length (state c.book (wait_at c.waits k).mark) → get_or c.links i 0 < (wait_at c.waits k).sets
  pub classed : (k : ℕ) → k < length c.waits → AreClassed (wait_at c.waits k).added

-- what the parts keep
abbrev pub Holds : Parts → Type 0
Holds p = IsHeld (core_of p)

-- what contracts see of the parts
abbrev pub shown : Parts → Shown
shown p = shown_of (core_of p)
