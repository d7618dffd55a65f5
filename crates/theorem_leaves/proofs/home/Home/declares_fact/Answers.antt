use Rattle.std.proofs.Common.{◌∙◌, sym, ap}
use Rattle.std.specs.Option.{option_copied}
use Rattle.usable_facts.specs.Proofs.{is_fact}
use Rattle.theorem_leaves.specs.Homes.{entries}
use Rattle.theorem_leaves.proofs.Walks.{past_last}
use Rattle.theorem_leaves.proofs.home.Home.declares_fact.Goals as goal

pub returns-in-None : goal.returns-in-None
returns-in-None c = ap (λ e. is_fact e.sort) (sym (past_last (entries c.args.self.now) c.args.number (sym c.entry.ensures.value ∙ ap option_copied c.in-None.is)))
