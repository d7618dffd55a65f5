use Rattle.std.proofs.Common.{ℕ, ◌<◌}
use Rattle.branch_book.specs.Links.{IsIn}
use Rattle.branch_state.specs.Shown.{IsAlive}
use Rattle.branch_state.specs.Parts.{core_of, entries}
use Rattle.branch_state.proofs.ReadLaws.{some_map, none_map, alive_of, in_of}
use Rattle.branch_state.proofs.reads.first.Goals as goal

pub returns-clause-alive : goal.returns-clause-alive
returns-clause-alive c =
    let k = core_of c.args.parts.now in
    some_map (λ i. IsIn k.book.now c.args.class i × ((j : ℕ) → j < i → IsIn k.book.now c.args.class j → ⊥)) (λ i. IsAlive (entries k.sets k.links k.book.now) c.args.class i) c.first.result
    (λ i h. alive_of k c.args.class i c.requires.held.room h.0) c.first.ensures.first

pub returns-clause-oldest : goal.returns-clause-oldest
returns-clause-oldest c =
    let k = core_of c.args.parts.now in
    some_map (λ i. IsIn k.book.now c.args.class i × ((j : ℕ) → j < i → IsIn k.book.now c.args.class j → ⊥)) (λ i. (j : ℕ) → j < i → IsAlive (entries k.sets k.links k.book.now) c.args.class j → ⊥) c.first.result
    (λ i h j l a. h.1 j l (in_of k c.args.class j c.requires.held.room a)) c.first.ensures.first

pub returns-clause-absent : goal.returns-clause-absent
returns-clause-absent c =
    let k = core_of c.args.parts.now in
    none_map ((j : ℕ) → IsIn k.book.now c.args.class j → ⊥) ((j : ℕ) → IsAlive (entries k.sets k.links k.book.now) c.args.class j → ⊥) c.first.result
    (λ h j a. h j (in_of k c.args.class j c.requires.held.room a)) c.first.ensures.absent
