use Rattle.std.proofs.Common.{◌≡◌, ◌<◌, ◌+◌, true, false, nat_eq, length, drop, get_or, sym, ◌∙◌, ap, rules}
use Rattle.core_expr.specs.Nodes.{picked}
use Rattle.term_bank.specs.Banks.{tree_at}
use Rattle.search_definition.specs.Terms.{either}
use Rattle.search_definition.specs.Branches.{has}
use Rattle.proof_trees.specs.Valued.{entries_of}
use Rattle.rule_proofs.proofs.Values.{has_at}
use Rattle.rule_proofs.proofs.value.has.Goals as goal

pub returns-then-ground-f : goal.returns-then-ground-f
returns-then-ground-f c =
    let ts = c.args.bank.now in
    let gs = c.args.grounds.now in
    let i = c.loop-ground.ground-index in
    let l : i < length gs = search rules in
    let e : nat_eq (get_or gs i 0) c.args.f ≡ true = search rules in
    let h = has_at ts gs i c.args.f 0 c.count.ensures.distinct c.requires.grounds c.requires.below l in
    sym (sym c.loop-ground.invariant ∙ h ∙ ap (λ x. either x (has (entries_of (picked ts (drop (i + 1) gs))) (tree_at ts c.args.f))) e)

pub loop-ground-preserved : goal.loop-ground-preserved
loop-ground-preserved c =
    let ts = c.args.bank.now in
    let gs = c.args.grounds.now in
    let i = c.loop-ground.ground-index in
    let l : i < length gs = search rules in
    let e : nat_eq (get_or gs i 0) c.args.f ≡ false = search rules in
    let h = has_at ts gs i c.args.f 0 c.count.ensures.distinct c.requires.grounds c.requires.below l in
    ap (λ x. either x (has (entries_of (picked ts (drop (i + 1) gs))) (tree_at ts c.args.f))) (sym e) ∙ sym h ∙ c.loop-ground.invariant
