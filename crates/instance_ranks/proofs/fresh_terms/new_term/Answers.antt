use Rattle.formula_rules.specs.Answers.{universal_of}
use Rattle.branch_state.specs.Parts.{shown}
use Rattle.tableau_search.proofs.RankLaws.{known_more}
use Rattle.tableau_search.proofs.LiftLaws.{tree_kept}
use Rattle.instance_ranks.proofs.KeepLaws.{below_kept}
use Rattle.instance_ranks.proofs.NewLaws.{term_new, term_old}
use Rattle.std.proofs.Common.{◌∙◌}
use Rattle.instance_ranks.proofs.fresh_terms.new_term.Goals as goal

pub is_new-requires-clause-known : goal.is_new-requires-clause-known
is_new-requires-clause-known c = known_more c.args.bank.now c.instance.new.bank (shown c.args.parts.now).now c.instance.ensures.extends c.requires.known

pub returns-then-branch-clause-ok : goal.returns-then-branch-clause-ok
returns-then-branch-clause-ok c =
    let ts = c.args.bank.now in
    let mid = c.instance.new.bank in
    let now = c.is_new.new.bank in
    let x = c.instance.ensures.extends in
    let y = c.is_new.ensures.extends in
    let l = below_kept ts mid c.args.t x c.requires.within in
    term_new ts mid now (shown c.args.parts.now).now (universal_of ts c.args.u) c.args.t c.in_ok-f.f c.args.t _ x c.requires.known c.in_ok-f.ensures.ok c.in_ok-is_new.ensures.ok c.if-branch.true (record { within = below_kept mid now c.args.t y l; tree = tree_kept mid now c.args.t y l ∙ tree_kept ts mid c.args.t x c.requires.within })

pub returns-clause-ok : goal.returns-clause-ok
returns-clause-ok c =
    let ts = c.args.bank.now in
    let mid = c.instance.new.bank in
    term_old ts mid c.is_new.new.bank (shown c.args.parts.now).now (universal_of ts c.args.u) c.args.t c.in_ok-f.f _ c.instance.ensures.extends c.requires.known c.in_ok-f.ensures.ok c.in_ok-is_new.ensures.ok c.if-branch.false
