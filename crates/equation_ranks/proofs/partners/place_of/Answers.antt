use Rattle.std.proofs.Common.{◌≡◌, ℕ, ◌<◌, length, ◌∙◌, sym, arith}
use Rattle.branch_book.specs.Links.{item_at}
use Rattle.branch_state.specs.Shown.{placed_at}
use Rattle.branch_state.specs.Parts.{core_of, entries}
use Rattle.branch_state.proofs.EntryLaws.{entries_length}
use Rattle.branch_state.proofs.ReadLaws.{some_map, none_map, formula_at}
use Rattle.equation_ranks.proofs.partners.place_of.Goals as goal

pub returns-clause-found : goal.returns-clause-found
returns-clause-found c =
    let k = core_of c.args.parts.now in
    let es = entries k.sets k.links k.book.now in
    some_map (λ i. (i < length k.book.now) × ((item_at k.book.now i).formula ≡ c.args.formula)) (λ i. (i < length es) × ((placed_at es i).formula ≡ c.args.formula)) c.find.result
    (λ i h. (omega (arith, h.0, entries_length k.sets k.links k.book.now c.requires.held.room), formula_at k.sets k.links k i c.requires.held.room h.0 ∙ h.1)) c.find.ensures.found

pub returns-clause-only : goal.returns-clause-only
returns-clause-only c =
    let k = core_of c.args.parts.now in
    let es = entries k.sets k.links k.book.now in
    some_map (λ i. (j : ℕ) → j < length k.book.now → (item_at k.book.now j).formula ≡ c.args.formula → j ≡ i) (λ i. (j : ℕ) → j < length es → (placed_at es j).formula ≡ c.args.formula → j ≡ i) c.find.result
    (λ i h j l e. let m : j < length k.book.now = omega (arith, l, entries_length k.sets k.links k.book.now c.requires.held.room) in h j m (sym (formula_at k.sets k.links k j c.requires.held.room m) ∙ e)) c.find.ensures.only

pub returns-clause-absent : goal.returns-clause-absent
returns-clause-absent c =
    let k = core_of c.args.parts.now in
    let es = entries k.sets k.links k.book.now in
    none_map ((i : ℕ) → i < length k.book.now → (item_at k.book.now i).formula ≡ c.args.formula → ⊥) ((j : ℕ) → j < length es → (placed_at es j).formula ≡ c.args.formula → ⊥) c.find.result
    (λ h j l e. let m : j < length k.book.now = omega (arith, l, entries_length k.sets k.links k.book.now c.requires.held.room) in h j m (sym (formula_at k.sets k.links k j c.requires.held.room m) ∙ e)) c.find.ensures.absent
