use Rattle.branch_state.specs.Parts.{shown}
use Rattle.tableau_ranks.proofs.KeptLaws.{kept_stays}
use Rattle.tableau_ranks.proofs.ranks.TableauRanksRanks.rank.Goals as goal

pub returns-clause-saved : goal.returns-clause-saved
returns-clause-saved c = kept_stays c.args.self.now c.by_rank.new.ranks (shown c.args.parts.now).now c.in_ok-found.ensures.kept
