use Rattle.std.proofs.Common.{◌≡◌, ◌<◌, [], length, get_or, ap, sym, subst, ◌∙◌, arith}
use Rattle.std.proofs.lemmas.List.{get_or-map, length-map}
use Rattle.std.proofs.lemmas.Grind.{get_or_default_zero}
use Rattle.branch_state.specs.Shown.{set_at, Falls}
use Rattle.branch_state.specs.Parts.{core_of}
use Rattle.branch_state.proofs.EntryLaws.{needs_found, needs_absent}
use Rattle.branch_state.proofs.reads.needs_of.Goals as goal

pub returns-in-None-clause-needs : goal.returns-in-None-clause-needs
returns-in-None-clause-needs c =
    let k = core_of c.args.parts.now in
    sym (needs_absent k.sets k.links k.book.now c.args.formula c.requires.held.room c.in-None.ensures.absent)

pub returns-in-Some-clause-needs : goal.returns-in-Some-clause-needs
returns-in-Some-clause-needs c =
    let k = core_of c.args.parts.now in
    let vs = c.args.parts.now.sets.items in
    let i = c.in-Some.i in
    let j = c.index.result.now in
    let h = c.in-Some.ensures.found in
    let l : i < length k.links = omega (arith, h.0, c.requires.held.room) in
    let e : get_or k.links i 0 ≡ j = sym (get_or_default_zero k.links i j l) ∙ sym c.index.ensures in
    let m : j < length k.sets = subst (λ n. n < length k.sets) e (c.requires.held.links i l) in
    let n : j < length vs = omega (arith, m, length-map vs (λ v. v.items)) in
    let s : c.deref.result.now ≡ set_at k.sets j = c.deref.ensures.value ∙ ap (λ v. v.items) c.index-in-Some.ensures ∙ sym (get_or-map (λ v. v.items) vs j c.index-in-Some.result.now [] n) in
    s ∙ ap (set_at k.sets) (sym e) ∙ sym (needs_found k.sets k.links k.book.now c.args.formula i c.requires.held.room h.0 h.1 c.in-Some.ensures.only)

pub returns-in-Some-clause-falls : goal.returns-in-Some-clause-falls
returns-in-Some-clause-falls c =
    let k = core_of c.args.parts.now in
    let vs = c.args.parts.now.sets.items in
    let i = c.in-Some.i in
    let j = c.index.result.now in
    let h = c.in-Some.ensures.found in
    let l : i < length k.links = omega (arith, h.0, c.requires.held.room) in
    let e : get_or k.links i 0 ≡ j = sym (get_or_default_zero k.links i j l) ∙ sym c.index.ensures in
    let m : j < length k.sets = subst (λ n. n < length k.sets) e (c.requires.held.links i l) in
    let n : j < length vs = omega (arith, m, length-map vs (λ v. v.items)) in
    let s : c.deref.result.now ≡ set_at k.sets j = c.deref.ensures.value ∙ ap (λ v. v.items) c.index-in-Some.ensures ∙ sym (get_or-map (λ v. v.items) vs j c.index-in-Some.result.now [] n) in
    subst Falls (sym s) (c.requires.held.falls j m)
