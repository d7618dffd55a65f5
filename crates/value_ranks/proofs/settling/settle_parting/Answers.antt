use Rattle.std.proofs.Common.{[], length, sym, ap, append-nil, subst, ◌∙◌}
use Rattle.core_expr.specs.Nodes.{AreBelow}
use Rattle.term_bank.specs.Banks.{tree_at}
use Rattle.term_bank.proofs.InstLaws.{Extends-trans}
use Rattle.term_shapes.proofs.Extending.{all_below-extend}
use Rattle.search_definition.specs.Splits.{settle_split}
use Rattle.branch_state.specs.Parts.{shown}
use Rattle.tableau_search.specs.Entries.{branch_of}
use Rattle.tableau_search.proofs.LiftLaws.{branch_kept, tree_kept}
use Rattle.formula_rules.specs.Answers.{trees_at, splitting_of}
use Rattle.branch_values.proofs.Reasoning.{known_grown}
use Rattle.formula_rules.proofs.Giving.{trees_kept}
use Rattle.value_ranks.proofs.Siding.{side_kept, splitting_kept, answer_as}
use Rattle.value_ranks.proofs.settling.settle_parting.Goals as goal

pub side_on-requires-2-clause-below : goal.side_on-requires-2-clause-below
side_on-requires-2-clause-below c = subst (AreBelow (length c.side_on.new.bank)) (sym c.as_slice-2.ensures.value) (all_below-extend c.args.bank.now c.side_on.new.bank c.args.parting.now.right.items c.side_on.ensures.extends c.requires.right_below)

pub side_on-requires-2-clause-known : goal.side_on-requires-2-clause-known
side_on-requires-2-clause-known c = known_grown c.args.bank.now c.side_on.new.bank (shown c.args.parts.now).now c.side_on.ensures.extends c.requires.known

pub settle_sides-requires-clause-left_below : goal.settle_sides-requires-clause-left_below
settle_sides-requires-clause-left_below c = all_below-extend c.args.bank.now c.side_on-2.new.bank c.args.parting.now.left.items (Extends-trans c.args.bank.now c.side_on.new.bank c.side_on-2.new.bank c.side_on.ensures.extends c.side_on-2.ensures.extends) c.requires.left_below

pub settle_sides-requires-clause-right_below : goal.settle_sides-requires-clause-right_below
settle_sides-requires-clause-right_below c = all_below-extend c.args.bank.now c.side_on-2.new.bank c.args.parting.now.right.items (Extends-trans c.args.bank.now c.side_on.new.bank c.side_on-2.new.bank c.side_on.ensures.extends c.side_on-2.ensures.extends) c.requires.right_below

pub settle_sides-requires-clause-known : goal.settle_sides-requires-clause-known
settle_sides-requires-clause-known c = known_grown c.args.bank.now c.side_on-2.new.bank (shown c.args.parts.now).now (Extends-trans c.args.bank.now c.side_on.new.bank c.side_on-2.new.bank c.side_on.ensures.extends c.side_on-2.ensures.extends) c.requires.known

pub settle_sides-requires-clause-left : goal.settle_sides-requires-clause-left
settle_sides-requires-clause-left c =
    let ts = c.args.bank.now in
    let us = c.side_on.new.bank in
    let vs = c.side_on-2.new.bank in
    let es = (shown c.args.parts.now).now in
    let ls = c.args.parting.now.left.items in
    side_kept us vs (branch_of ts es) (branch_of vs es) (trees_at ts c.as_slice.result.now) (trees_at vs ls) c.in_ok-left.left c.side_on-2.ensures.extends
    (sym (branch_kept ts vs es (Extends-trans ts us vs c.side_on.ensures.extends c.side_on-2.ensures.extends) c.requires.known))
    (ap (trees_at ts) c.as_slice.ensures.value ∙ sym (trees_kept ts vs ls (Extends-trans ts us vs c.side_on.ensures.extends c.side_on-2.ensures.extends) c.requires.left_below))
    c.in_ok-left.ensures.ok

pub settle_sides-requires-clause-right : goal.settle_sides-requires-clause-right
settle_sides-requires-clause-right c =
    let ts = c.args.bank.now in
    let us = c.side_on.new.bank in
    let vs = c.side_on-2.new.bank in
    let es = (shown c.args.parts.now).now in
    let rs = c.args.parting.now.right.items in
    side_kept vs vs (branch_of us es) (branch_of vs es) (trees_at us c.as_slice-2.result.now) (trees_at vs rs) c.in_ok-right.right ([], sym (append-nil vs))
    (sym (branch_kept us vs es c.side_on-2.ensures.extends (known_grown ts us es c.side_on.ensures.extends c.requires.known)))
    (ap (trees_at us) c.as_slice-2.ensures.value ∙ sym (trees_kept us vs rs c.side_on-2.ensures.extends (all_below-extend ts us rs c.side_on.ensures.extends c.requires.right_below)))
    c.in_ok-right.ensures.ok

pub returns-clause-ok : goal.returns-clause-ok
returns-clause-ok c =
    let ts = c.args.bank.now in
    let us = c.side_on.new.bank in
    let vs = c.side_on-2.new.bank in
    let es = (shown c.args.parts.now).now in
    let p = c.args.parting.now in
    answer_as c.settle_sides.new.bank c.in_ok-given.given (settle_split (branch_of vs es) (tree_at vs c.args.f) (splitting_of vs p)) (settle_split (branch_of ts es) (tree_at ts c.args.f) (splitting_of ts p)) c.in_ok-given.ensures.ok
    (λ i. settle_split (branch_kept ts vs es (Extends-trans ts us vs c.side_on.ensures.extends c.side_on-2.ensures.extends) c.requires.known i)
    (tree_kept ts vs c.args.f (Extends-trans ts us vs c.side_on.ensures.extends c.side_on-2.ensures.extends) c.requires.within i)
    (splitting_kept ts vs p (Extends-trans ts us vs c.side_on.ensures.extends c.side_on-2.ensures.extends) c.requires.left_below c.requires.right_below i))
