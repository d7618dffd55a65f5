use Rattle.std.proofs.Common.{refl}
use Rattle.term_bank.specs.Banks.{tree_at}
use Rattle.search_definition.specs.Terms.{first_at}
use Rattle.search_definition.specs.Splits.{split_term}
use Rattle.branch_state.specs.Parts.{shown}
use Rattle.tableau_search.specs.Entries.{branch_of}
use Rattle.branch_values.proofs.Reasoning.{known_grown}
use Rattle.literal_ranks.proofs.Finding.{term_some}
use Rattle.literal_ranks.proofs.LiteralLaws.{closed_term}
use Rattle.literal_ranks.proofs.SplitLaws.{split_kept, literal_split}
use Rattle.literal_ranks.proofs.splitting.term_split.Goals as goal

pub split_at-requires-clause-closed : goal.split_at-requires-clause-closed
split_at-requires-clause-closed c =
    let b = branch_of c.args.bank.now (shown c.args.parts.now).now in
    let us = c.first_sought.new.bank in
    closed_term b (tree_at c.args.bank.now c.args.f) (tree_at us c.in-Some.u) (term_some us c.in_ok-u.field-0 (first_at (split_term b) (tree_at c.args.bank.now c.args.f)) c.in-Some.u c.in_ok-u.ensures.ok c.in-Some.is).1

pub split_at-requires-clause-known : goal.split_at-requires-clause-known
split_at-requires-clause-known c = known_grown c.args.bank.now c.first_sought.new.bank (shown c.args.parts.now).now c.first_sought.ensures.extends c.requires.known

pub returns-in_ok-given-in-Some-clause-ok : goal.returns-in_ok-given-in-Some-clause-ok
returns-in_ok-given-in-Some-clause-ok c =
    let ts = c.args.bank.now in
    let us = c.first_sought.new.bank in
    let es = (shown c.args.parts.now).now in
    let b = branch_of ts es in
    literal_split c.split_at.new.bank c.is_literal.result b (tree_at ts c.args.f) (tree_at us c.in-Some.u) c.in_ok-given-in-Some.given c.is_literal.ensures c.if-not-is_literal.false
    (term_some us c.in_ok-u.field-0 (first_at (split_term b) (tree_at ts c.args.f)) c.in-Some.u c.in_ok-u.ensures.ok c.in-Some.is).1
    (split_kept ts us c.split_at.new.bank es c.args.f (tree_at us c.in-Some.u) c.in-Some.u c.in_ok-given-in-Some.given c.first_sought.ensures.extends c.requires.known c.requires.within refl c.in_ok-given-in-Some.ensures.ok)
