use Rattle.std.proofs.Common.{ℕ, ◌<◌, subst, sym}
use Rattle.branch_book.specs.Links.{item_at, IsIn}
use Rattle.branch_state.specs.Shown.{IsAlive}
use Rattle.branch_state.specs.Parts.{core_of, entries}
use Rattle.branch_state.proofs.ReadLaws.{some_map, none_map, alive_of, in_of}
use Rattle.branch_state.proofs.reads.next.Goals as goal

pub next-requires-clause-within : goal.next-requires-clause-within
next-requires-clause-within c = let k = core_of c.args.parts.now in (in_of k c.args.class c.args.i c.requires.held.room c.requires.alive).within

pub next-requires-clause-live : goal.next-requires-clause-live
next-requires-clause-live c = let k = core_of c.args.parts.now in (in_of k c.args.class c.args.i c.requires.held.room c.requires.alive).lives

pub returns-clause-alive : goal.returns-clause-alive
returns-clause-alive c =
    let k = core_of c.args.parts.now in
    let e = (in_of k c.args.class c.args.i c.requires.held.room c.requires.alive).classed in
    some_map (λ n. (c.args.i < n) × IsIn k.book.now (item_at k.book.now c.args.i).class n × ((j : ℕ) → c.args.i < j → j < n → IsIn k.book.now (item_at k.book.now c.args.i).class j → ⊥)) (λ n. IsAlive (entries k.sets k.links k.book.now) c.args.class n) c.next.result
    (λ n h. alive_of k c.args.class n c.requires.held.room (subst (λ m. IsIn k.book.now m n) e h.1)) c.next.ensures.next

pub returns-clause-next : goal.returns-clause-next
returns-clause-next c =
    let k = core_of c.args.parts.now in
    let e = (in_of k c.args.class c.args.i c.requires.held.room c.requires.alive).classed in
    some_map (λ n. (c.args.i < n) × IsIn k.book.now (item_at k.book.now c.args.i).class n × ((j : ℕ) → c.args.i < j → j < n → IsIn k.book.now (item_at k.book.now c.args.i).class j → ⊥)) (λ n. (j : ℕ) → c.args.i < j → j < n → IsAlive (entries k.sets k.links k.book.now) c.args.class j → ⊥) c.next.result
    (λ n h j l m a. h.2 j l m (subst (λ d. IsIn k.book.now d j) (sym e) (in_of k c.args.class j c.requires.held.room a))) c.next.ensures.next

pub returns-clause-absent : goal.returns-clause-absent
returns-clause-absent c =
    let k = core_of c.args.parts.now in
    let e = (in_of k c.args.class c.args.i c.requires.held.room c.requires.alive).classed in
    none_map ((j : ℕ) → c.args.i < j → IsIn k.book.now (item_at k.book.now c.args.i).class j → ⊥) ((j : ℕ) → c.args.i < j → IsAlive (entries k.sets k.links k.book.now) c.args.class j → ⊥) c.next.result
    (λ h j l a. h j l (subst (λ d. IsIn k.book.now d j) (sym e) (in_of k c.args.class j c.requires.held.room a))) c.next.ensures.absent
