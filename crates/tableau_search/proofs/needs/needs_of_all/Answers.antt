use Rattle.std.proofs.Common.{◌≡◌, ◌<◌, ◌-◌, ◌+◌, length, drop, get_or, ap, sym, subst, ◌∙◌, arith}
use Rattle.std.proofs.lemmas.List.{drop_more, drop_all}
use Rattle.search_definition.specs.Needs.{union}
use Rattle.search_loop.proofs.SetLaws.{falls_union}
use Rattle.branch_state.specs.Shown.{needs_at, Falls}
use Rattle.branch_state.specs.Parts.{shown}
use Rattle.tableau_search.specs.Entries.{needs_of_all}
use Rattle.tableau_search.proofs.needs.needs_of_all.Goals as goal

pub loop-left-init : goal.loop-left-init
loop-left-init c =
    let es = (shown c.args.parts.now).now in
    let fs = c.args.named.now in
    record { within = omega arith; needs = c.new-needs.ensures.items ∙ sym (ap (needs_of_all es) (drop_all (length fs) fs (omega arith))); falls = subst Falls (sym c.new-needs.ensures.items) tt }

pub loop-left-preserved : goal.loop-left-preserved
loop-left-preserved c =
    let es = (shown c.args.parts.now).now in
    let k = c.loop-left.left - 1 in
    let fs = c.args.named.now in
    let l : k < length fs = omega (arith, c.loop-left.invariant.within, c.loop-left-test.true) in
    let s : c.loop-left.left ≡ k + 1 = omega (arith, c.loop-left-test.true) in
    let d = c.deref.ensures.value in
    let e : c.in_ok-needs.needs.items ≡ union (needs_at es (get_or fs k 0)) c.loop-left.needs.items = c.in_ok-needs.ensures ∙ (λ t. union (c.needs_of.ensures.needs t) (d t)) in
    record {
      within = omega (arith, l);
      needs =
          e
          ∙ ap (λ ks. union (needs_at es (get_or fs k 0)) ks) (c.loop-left.invariant.needs ∙ ap (λ j. needs_of_all es (drop j fs)) s)
          ∙ sym (ap (needs_of_all es) (drop_more fs k 0 l));
      falls = subst Falls (sym c.in_ok-needs.ensures) (falls_union c.needs_of.result.now c.deref.result.now c.needs_of.ensures.falls (subst Falls (sym d) c.loop-left.invariant.falls));
    }
