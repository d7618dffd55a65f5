use Rattle.term_bank.specs.Banks.{tree_at}
use Rattle.search_definition.specs.Splits.{splitting, settle_split, settle}
use Rattle.branch_state.specs.Parts.{shown}
use Rattle.tableau_search.specs.Entries.{branch_of}
use Rattle.tableau_search.proofs.LiftLaws.{branch_kept, tree_kept}
use Rattle.formula_rules.specs.Answers.{splitting_of}
use Rattle.branch_values.proofs.Reasoning.{known_grown}
use Rattle.value_ranks.proofs.Siding.{parted_some, settle_kept, answer_as}
use Rattle.value_ranks.proofs.settling.settle.Goals as goal

pub settle_parting-requires-clause-left_below : goal.settle_parting-requires-clause-left_below
settle_parting-requires-clause-left_below c = (parted_some c.parting_of.new.bank c.in_ok-parting_of.field-0 c.in-Some.parting (splitting (tree_at c.args.bank.now c.args.f)) c.in_ok-parting_of.ensures.ok c.in-Some.is).1

pub settle_parting-requires-clause-right_below : goal.settle_parting-requires-clause-right_below
settle_parting-requires-clause-right_below c = (parted_some c.parting_of.new.bank c.in_ok-parting_of.field-0 c.in-Some.parting (splitting (tree_at c.args.bank.now c.args.f)) c.in_ok-parting_of.ensures.ok c.in-Some.is).2

pub settle_parting-requires-clause-known : goal.settle_parting-requires-clause-known
settle_parting-requires-clause-known c = known_grown c.args.bank.now c.parting_of.new.bank (shown c.args.parts.now).now c.parting_of.ensures.extends c.requires.known

pub returns-in_ok-given-in-Some-clause-ok : goal.returns-in_ok-given-in-Some-clause-ok
returns-in_ok-given-in-Some-clause-ok c =
    let ts = c.args.bank.now in
    let us = c.parting_of.new.bank in
    let es = (shown c.args.parts.now).now in
    let f = c.args.f in
    let p = c.in-Some.parting in
    answer_as c.settle_parting.new.bank c.in_ok-given-in-Some.given (settle_split (branch_of us es) (tree_at us f) (splitting_of us p)) (settle (branch_of ts es) (tree_at ts f)) c.in_ok-given-in-Some.ensures.ok
    (settle_kept ts us (branch_of ts es) (branch_of us es) f c.in_ok-parting_of.field-0 p c.in_ok-parting_of.ensures.ok c.in-Some.is (branch_kept ts us es c.parting_of.ensures.extends c.requires.known) (tree_kept ts us f c.parting_of.ensures.extends c.requires.within))
