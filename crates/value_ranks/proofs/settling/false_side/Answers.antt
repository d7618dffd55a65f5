use Rattle.std.proofs.Common.{◌∙◌, ◌++◌}
use Rattle.branch_state.specs.Parts.{shown}
use Rattle.tableau_search.specs.Entries.{branch_of}
use Rattle.value_ranks.proofs.Siding.{false_given}
use Rattle.value_ranks.proofs.settling.false_side.Goals as goal

pub returns-clause-ok : goal.returns-clause-ok
returns-clause-ok c =
    false_given c.args.bank.now c.grounds_on.new.bank (branch_of c.args.bank.now (shown c.args.parts.now).now) c.args.rule c.args.f c.args.k c.extend_from_slice.new.self c.new.result c.in_ok-from_slice.field-0 c.in_ok-grounds.grounds.items c.args.other.now c.grounds_on.ensures.extends c.requires.within c.requires.below
    (c.in_ok-extend_from_slice.ensures.items ∙ (λ i. c.in_ok-named.ensures.items i ++ c.as_slice.ensures.value i)) c.new.ensures.items c.in_ok-from_slice.ensures.items c.in_ok-grounds.ensures.below c.in_ok-grounds.ensures.grounds
