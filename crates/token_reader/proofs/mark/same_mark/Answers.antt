use Rattle.std.proofs.Common.{rules, sym, ◌∙◌}
use denote.Enum.Bare.{same_true}
use Rattle.token_reader.specs.contracts.mark.Mark.{the_type}
use Rattle.token_reader.specs.Marks.{same_mark}
use Rattle.token_reader.proofs.mark.same_mark.Goals as goal

pub returns-clause-value : goal.returns-clause-value
unfolding same_mark
returns-clause-value c = search rules

pub returns-clause-same : goal.returns-clause-same
returns-clause-same c is = same_true the_type (search rules) _ _ (sym c.eq.ensures ∙ is)
