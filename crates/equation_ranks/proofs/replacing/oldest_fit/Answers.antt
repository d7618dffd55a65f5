use Rattle.std.proofs.Common.{sym, ◌∙◌, add-one}
use Rattle.term_bank.specs.Banks.{tree_at}
use Rattle.branch_state.specs.Parts.{shown}
use Rattle.equation_ranks.proofs.ReplaceLaws.{fits_not}
use Rattle.equation_ranks.proofs.replacing.oldest_fit.Goals as goal

pub loop-i-preserved : goal.loop-i-preserved
loop-i-preserved c =
    let ts = c.args.bank.now in
    fits_not ts (shown c.args.parts.now).now (tree_at ts c.args.q) (tree_at ts c.args.greater) c.loop-i.i _ (add-one c.loop-i.i) c.loop-i.invariant (sym c.in_ok-fits.ensures ∙ c.if-branch.false)
