use Rattle.term_bank.specs.Banks.{tree_at}
use Rattle.branch_state.specs.Parts.{shown}
use Rattle.tableau_search.specs.Entries.{branch_of}
use Rattle.literal_ranks.specs.Seeking.{sought_at}
use Rattle.literal_ranks.proofs.Finding.{at_first}
use Rattle.literal_ranks.proofs.sought.first_sought.Goals as goal

pub returns-clause-ok : goal.returns-clause-ok
returns-clause-ok c = at_first (sought_at c.args.sought) c.args.bank.now c.first_of.new.bank (branch_of c.args.bank.now (shown c.args.parts.now).now) c.in_ok-terms.terms.items c.as_slice.result.now (tree_at c.args.bank.now c.args.f) c.in_ok-term.term c.as_slice.ensures.value c.in_ok-terms.ensures.ok c.in_ok-term.ensures.ok
