use Rattle.std.proofs.Common.{ap, sym, ◌∙◌}
use Rattle.core_expr.specs.Tree.{not_}
use Rattle.term_bank.specs.Banks.{tree_at}
use Rattle.search_definition.specs.Terms.{either}
use Rattle.search_definition.specs.Branches.{has}
use Rattle.search_definition.specs.Splits.{not_all_taken}
use Rattle.branch_state.specs.Parts.{shown}
use Rattle.tableau_search.specs.Entries.{branch_of}
use Rattle.tableau_search.proofs.LiftLaws.{branch_kept, tree_kept}
use Rattle.branch_values.proofs.Reasoning.{known_grown}
use Rattle.literal_ranks.proofs.LiteralLaws.{taken_is}
use Rattle.literal_ranks.proofs.untaken.is_taken.Goals as goal

pub is_told-told-requires-clause-known : goal.is_told-told-requires-clause-known
is_told-told-requires-clause-known c = known_grown c.args.bank.now c.make.new.bank (shown c.args.parts.now).now c.make.ensures.extends c.requires.known

pub is_not_all-requires-clause-known : goal.is_not_all-requires-clause-known
is_not_all-requires-clause-known c = known_grown c.args.bank.now c.make.new.bank (shown c.args.parts.now).now c.make.ensures.extends c.requires.known

pub returns-then-told-clause-ok : goal.returns-then-told-clause-ok
returns-then-told-clause-ok c =
    let ts = c.args.bank.now in
    let eb = branch_kept ts c.make.new.bank (shown c.args.parts.now).now c.make.ensures.extends c.requires.known in
    taken_is (branch_of ts (shown c.args.parts.now).now) (tree_at ts c.args.p) c.is_told-told.result c.in_ok-not_all.not_all
    (c.is_told-told.ensures ∙ (λ i. either (has (eb i) (c.in_ok-ex.ensures.ok.tree i)) (has (eb i) (not_ (c.in_ok-ex.ensures.ok.tree i)))))
    (c.in_ok-not_all.ensures.ok ∙ (λ i. not_all_taken (eb i) (tree_kept ts c.make.new.bank c.args.p c.make.ensures.extends c.requires.within i)))
    (c.if-told.true ∙ ap (λ z. either z c.in_ok-not_all.not_all) (sym c.if-told.true))

pub returns-else-told-clause-ok : goal.returns-else-told-clause-ok
returns-else-told-clause-ok c =
    let ts = c.args.bank.now in
    let eb = branch_kept ts c.make.new.bank (shown c.args.parts.now).now c.make.ensures.extends c.requires.known in
    taken_is (branch_of ts (shown c.args.parts.now).now) (tree_at ts c.args.p) c.is_told-told.result c.in_ok-not_all.not_all
    (c.is_told-told.ensures ∙ (λ i. either (has (eb i) (c.in_ok-ex.ensures.ok.tree i)) (has (eb i) (not_ (c.in_ok-ex.ensures.ok.tree i)))))
    (c.in_ok-not_all.ensures.ok ∙ (λ i. not_all_taken (eb i) (tree_kept ts c.make.new.bank c.args.p c.make.ensures.extends c.requires.within i)))
    (ap (λ z. either z c.in_ok-not_all.not_all) (sym c.if-told.false))
