use Rattle.std.proofs.Common.{◌∙◌}
use Rattle.core_expr.specs.Tree.{not_}
use Rattle.search_definition.specs.Branches.{has}
use Rattle.branch_state.specs.Parts.{shown}
use Rattle.tableau_search.proofs.LiftLaws.{branch_kept}
use Rattle.branch_values.proofs.Reasoning.{known_grown}
use Rattle.literal_ranks.proofs.untaken.is_form_denied.Goals as goal

pub is_denied-requires-clause-known : goal.is_denied-requires-clause-known
is_denied-requires-clause-known c = known_grown c.args.bank.now c.make.new.bank (shown c.args.parts.now).now c.make.ensures.extends c.requires.known

pub returns-clause-ok : goal.returns-clause-ok
returns-clause-ok c = c.is_denied.ensures ∙ (λ i. has (branch_kept c.args.bank.now c.make.new.bank (shown c.args.parts.now).now c.make.ensures.extends c.requires.known i) (not_ (c.in_ok-i.ensures.ok.tree i)))
