use Rattle.term_bank.specs.Banks.{tree_at}
use Rattle.search_definition.specs.Terms.{first_at}
use Rattle.search_definition.specs.Splits.{untaken}
use Rattle.branch_state.specs.Parts.{shown}
use Rattle.tableau_search.specs.Entries.{branch_of}
use Rattle.literal_ranks.proofs.Finding.{term_some}
use Rattle.literal_ranks.proofs.LiteralLaws.{scoped_body}
use Rattle.literal_ranks.proofs.choosing.take_up.Goals as goal

pub taken_up-requires-clause-body : goal.taken_up-requires-clause-body
taken_up-requires-clause-body c =
    let b = branch_of c.args.bank.now (shown c.args.parts.now).now in
    let us = c.first_sought.new.bank in
    scoped_body b (tree_at c.args.bank.now c.args.f) (tree_at us c.in-Some.p) (term_some us c.in_ok-p.field-0 (first_at (untaken b) (tree_at c.args.bank.now c.args.f)) c.in-Some.p c.in_ok-p.ensures.ok c.in-Some.is).1
