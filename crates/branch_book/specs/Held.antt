-- What the fields of a book keep.
use Rattle.std.specs.Prelude.{◌≡◌, ℕ, suc, ◌+◌, ◌-◌, ◌<◌, ◌≤◌, true, false, List, [], ◌∷◌, length, take, reverse}
use Rattle.std.proofs.Common.{get_or}
use Rattle.branch_book.specs.declared.item.Item.{Item}
use Rattle.branch_book.specs.declared.item.Move.{Move}
use Rattle.branch_book.specs.declared.item.Move.TheVariants.{Added, Killed, Kept, Counted}
use Rattle.branch_book.specs.declared.fields.Fields.{Fields}
use Rattle.branch_book.specs.Links.{item_at, Chain, chain_of, Adjacent, HasRoom, IsLinked}
use Rattle.branch_book.specs.States.{Seen, with_life, with_count}

-- the entries before a change
abbrev pub before_move : Move → List Item → List Item
before_move Added xs = take (length xs - 1) xs
before_move (Killed e p q) xs = with_life true xs e
before_move Kept xs = xs
before_move (Counted e) xs = with_count ((item_at xs e).count - 1) xs e

-- the earlier states, the latest first, by the changes, the latest first
abbrev pub states : List Item → List Move → List (List Item)
states xs [] = []
states xs (m ∷ ms) = before_move m xs ∷ states (before_move m xs) ms

-- what contracts see
abbrev pub seen_of : List Item → List Move → Seen
seen_of xs ms = record { now = xs; past = reverse (states xs (reverse ms)) }

-- the change can be taken back
abbrev pub CanUndo : Move → List Item → Type 0
CanUndo Added xs = (0 < length xs) × ((item_at xs (length xs - 1)).live ≡ true)
CanUndo (Killed e p q) xs = (e < length xs) × ((item_at xs e).live ≡ false) × (p ≤ e) × (e < q) × Adjacent xs (item_at xs e).class p q
CanUndo Kept xs = Unit {0}
CanUndo (Counted e) xs = (e < length xs) × (0 < (item_at xs e).count)

-- all changes can be taken back, the latest first
abbrev pub CanUndoAll : List Item → List Move → Type 0
CanUndoAll xs [] = Unit {0}
CanUndoAll xs (m ∷ ms) = CanUndo m xs × CanUndoAll (before_move m xs) ms

-- of each formula one more than its entry, or 0
pub record IsPlaced (xs : List Item) (places : List ℕ) : Type 0 where
  pub placed : (i : ℕ) → i < length xs → get_or places (item_at xs i).formula 0 ≡ i + 1
  pub placing : (f : ℕ) → 0 < get_or places f 0 → (get_or places f 0 ≤ length xs) × ((item_at xs (get_or places f 0 - 1)).formula ≡ f)

-- the links and the places fit the entries, and all changes can be taken back
pub record IsHeld (xs : List Item) (l : Chain) (places : List ℕ) (ms : List Move) : Type 0 where
  pub room : HasRoom xs l
  pub linked : IsLinked xs l
  pub placed : IsPlaced xs places
  pub moved : CanUndoAll xs (reverse ms)

-- what the fields keep
abbrev pub Holds : Fields → Type 0
Holds b = IsHeld b.items.items (chain_of b.links) b.places.items b.moves.items

-- what contracts see of the fields
abbrev pub seen : Fields → Seen
seen b = seen_of b.items.items b.moves.items
