use Rattle.std.proofs.Common.{length, ap, ◌∙◌}
use Rattle.term_bank.specs.Banks.{tree_at}
use Rattle.search_definition.specs.Branches.{is_mirror_not}
use Rattle.branch_state.specs.Parts.{shown}
use Rattle.tableau_search.proofs.LiftLaws.{tree_kept}
use Rattle.tableau_search.proofs.RankLaws.{known_more}
use Rattle.equation_ranks.proofs.ClosingLaws.{entry_below}
use Rattle.equation_ranks.proofs.closing.closes_at.Goals as goal

pub mirror_denial-requires : goal.mirror_denial-requires
mirror_denial-requires c = entry_below (length c.args.bank.now) (shown c.args.parts.now).now c.args.i c.entry-f.result c.requires.known c.requires.within c.entry-f.ensures

pub closes_by-requires-clause-known : goal.closes_by-requires-clause-known
closes_by-requires-clause-known c = known_more c.args.bank.now c.mirror_denial.new.bank (shown c.args.parts.now).now c.mirror_denial.ensures.extends c.requires.known

pub closes_by-requires-clause-formula : goal.closes_by-requires-clause-formula
closes_by-requires-clause-formula c =
    let es = (shown c.args.parts.now).now in
    entry_below (length c.mirror_denial.new.bank) es c.args.i c.entry-f.result (known_more c.args.bank.now c.mirror_denial.new.bank es c.mirror_denial.ensures.extends c.requires.known) c.requires.within c.entry-f.ensures

pub closes_by-requires-clause-mirror : goal.closes_by-requires-clause-mirror
closes_by-requires-clause-mirror c = λ g l.
    let us = c.mirror_denial.new.bank in
    let m = entry_below (length c.args.bank.now) (shown c.args.parts.now).now c.args.i c.entry-f.result c.requires.known c.requires.within c.entry-f.ensures in
    ap (λ t. is_mirror_not t (tree_at us g)) (tree_kept c.args.bank.now us c.entry-f.result.formula c.mirror_denial.ensures.extends m) ∙ c.in_ok-mirror.ensures.ok g l
