-- Entries of the book against entries with their needs.
use Rattle.std.proofs.Common.{◌≡◌, ℕ, ◌<◌, ◌≤◌, List, length, ap, sym, ◌∙◌, arith}
use Rattle.std.specs.Prelude.{Option, Some, None, IfSome, IfNone}
use Rattle.branch_book.specs.Links.{item_at, IsIn}
use Rattle.branch_state.specs.Shown.{Placed, placed_at, IsAlive}
use Rattle.branch_state.specs.Parts.{Core, entries}
use Rattle.branch_state.proofs.EntryLaws.{entries_at, entries_length}

pub some_map : (P Q : ℕ → Type 0) (o : Option ℕ) → ((x : ℕ) → P x → Q x) → IfSome o P → IfSome o Q
some_map P Q None f h = h
some_map P Q (Some x) f h = f x h

pub none_map : (P Q : Type 0) (o : Option ℕ) → (P → Q) → IfNone o P → IfNone o Q
none_map P Q None f h = f h
none_map P Q (Some x) f h = h

pub formula_at : (ss : List (List ℕ)) (ls : List ℕ) (c : Core) (i : ℕ) → length c.book.now ≤ length ls → i < length c.book.now → (placed_at (entries ss ls c.book.now) i).formula ≡ (item_at c.book.now i).formula
formula_at ss ls c i r l = ap (λ (e : Placed). e.formula) (entries_at ss ls c.book.now i r l)

pub class_at : (ss : List (List ℕ)) (ls : List ℕ) (c : Core) (i : ℕ) → length c.book.now ≤ length ls → i < length c.book.now → (placed_at (entries ss ls c.book.now) i).class ≡ (item_at c.book.now i).class
class_at ss ls c i r l = ap (λ (e : Placed). e.class) (entries_at ss ls c.book.now i r l)

pub live_is : (ss : List (List ℕ)) (ls : List ℕ) (c : Core) (i : ℕ) → length c.book.now ≤ length ls → i < length c.book.now → (placed_at (entries ss ls c.book.now) i).live ≡ (item_at c.book.now i).live
live_is ss ls c i r l = ap (λ (e : Placed). e.live) (entries_at ss ls c.book.now i r l)

pub alive_of : (c : Core) (k i : ℕ) → length c.book.now ≤ length c.links → IsIn c.book.now k i → IsAlive (entries c.sets c.links c.book.now) k i
alive_of c k i r h =
    record {
      within = omega (arith, h.within, entries_length c.sets c.links c.book.now r);
      lives = live_is c.sets c.links c i r h.within ∙ h.lives;
      classed = class_at c.sets c.links c i r h.within ∙ h.classed;
    }

pub in_of : (c : Core) (k i : ℕ) → length c.book.now ≤ length c.links → IsAlive (entries c.sets c.links c.book.now) k i → IsIn c.book.now k i
in_of c k i r h =
    let l : i < length c.book.now = omega (arith, h.within, entries_length c.sets c.links c.book.now r) in
    record { within = l; lives = sym (live_is c.sets c.links c i r l) ∙ h.lives; classed = sym (class_at c.sets c.links c i r l) ∙ h.classed }
