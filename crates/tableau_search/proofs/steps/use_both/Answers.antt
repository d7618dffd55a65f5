use Rattle.std.proofs.Common.{length, ap, arith}
use Rattle.branch_state.specs.Shown.{Shown, used_at}
use Rattle.branch_state.specs.Parts.{shown}
use Rattle.tableau_search.proofs.LiftLaws.{used_length}
use Rattle.tableau_search.proofs.steps.use_both.Goals as goal

pub use_entry-requires-2-clause-within : goal.use_entry-requires-2-clause-within
use_entry-requires-2-clause-within c =
    let s = shown c.args.parts.now in
    let i = c.args.used.now.entry in
    let p = c.stays_second.result in
    let q = c.rises.result in
    let a = ap (λ (t : Shown). length t.now) c.in_ok-place.ensures.ok in
    let b = ap (λ (t : Shown). length t.now) c.in_ok-use_entry.ensures.ok in
    let d = ap (λ (t : Shown). length (used_at p q t.now i)) c.in_ok-set.ensures.ok in
    omega (arith, a, b, d, used_length p q s.now i, c.requires.within)
