use Rattle.branch_state.specs.Parts.{shown}
use Rattle.equation_ranks.proofs.ReplaceLaws.{fit_found, fit_none}
use Rattle.equation_ranks.proofs.replacing.by_sides.Goals as goal

pub returns-in-Some : goal.returns-in-Some
returns-in-Some c = fit_found c.args.bank.now (shown c.args.parts.now).now c.args.q c.in-Some.place c.args.sides _ c.requires.equation c.requires.sides c.in_ok-place.ensures c.in-Some.is

pub returns-in-None : goal.returns-in-None
returns-in-None c = fit_none c.args.bank.now (shown c.args.parts.now).now c.args.q c.args.sides _ c.in_ok-place.ensures c.in-None.is
