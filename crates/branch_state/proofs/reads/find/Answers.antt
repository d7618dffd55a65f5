use Rattle.std.proofs.Common.{◌≡◌, ℕ, ◌<◌, length, true, false, ◌∙◌, arith}
use Rattle.branch_book.specs.Links.{item_at}
use Rattle.branch_state.specs.Shown.{placed_at, stands}
use Rattle.branch_state.specs.Parts.{core_of, entries}
use Rattle.branch_state.proofs.EntryLaws.{entries_length, entries_stands, stands_found, stands_absent}
use Rattle.branch_state.proofs.ReadLaws.{some_map, none_map, formula_at}
use Rattle.branch_state.proofs.reads.find.Goals as goal

pub returns-clause-within : goal.returns-clause-within
returns-clause-within c =
    let k = core_of c.args.parts.now in
    some_map (λ i. (i < length k.book.now) × ((item_at k.book.now i).formula ≡ c.args.formula)) (λ i. i < length (entries k.sets k.links k.book.now)) c.find.result
    (λ i h. omega (arith, h.0, entries_length k.sets k.links k.book.now c.requires.held.room)) c.find.ensures.found

pub returns-clause-found : goal.returns-clause-found
returns-clause-found c =
    let k = core_of c.args.parts.now in
    some_map (λ i. (i < length k.book.now) × ((item_at k.book.now i).formula ≡ c.args.formula)) (λ i. (placed_at (entries k.sets k.links k.book.now) i).formula ≡ c.args.formula) c.find.result
    (λ i h. formula_at k.sets k.links k i c.requires.held.room h.0 ∙ h.1) c.find.ensures.found

pub returns-clause-stands : goal.returns-clause-stands
returns-clause-stands c =
    let k = core_of c.args.parts.now in
    some_map (λ i. (i < length k.book.now) × ((item_at k.book.now i).formula ≡ c.args.formula)) (λ i. stands (entries k.sets k.links k.book.now) c.args.formula ≡ true) c.find.result
    (λ i h. entries_stands k.sets k.links k.book.now c.args.formula c.requires.held.room ∙ stands_found k.book.now c.args.formula i h.0 h.1) c.find.ensures.found

pub returns-clause-absent : goal.returns-clause-absent
returns-clause-absent c =
    let k = core_of c.args.parts.now in
    none_map ((i : ℕ) → i < length k.book.now → (item_at k.book.now i).formula ≡ c.args.formula → ⊥) (stands (entries k.sets k.links k.book.now) c.args.formula ≡ false) c.find.result
    (λ h. entries_stands k.sets k.links k.book.now c.args.formula c.requires.held.room ∙ stands_absent k.book.now c.args.formula h) c.find.ensures.absent
