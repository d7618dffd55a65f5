use Rattle.branch_state.specs.Parts.{shown}
use Rattle.tableau_ranks.proofs.KeptLaws.{kept_stays}
use Rattle.tableau_ranks.proofs.ranks.TableauRanksRanks.close.Goals as goal

pub returns-clause-saved : goal.returns-clause-saved
returns-clause-saved c = kept_stays c.args.self.now c.close.new.ranks (shown c.args.parts.now).now c.in_ok-closing.ensures.kept
