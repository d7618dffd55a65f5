use Rattle.std.proofs.Common.{[], ap, ◌∙◌}
use Rattle.expression_level.specs.Levels.{bound}
use Rattle.expression_level.specs.Weights.{function_of}
use Rattle.expression_level.proofs.Kept.{levels-set, closed-set}
use Rattle.expression_level.proofs.levels.keep.Goals as goal

pub returns-clause-kept : goal.returns-clause-kept
returns-clause-kept c =
    levels-set c.reach.new.known.items c.args.number c.args.value c.in_ok-reach.ensures.reached
    ∙ ap (bound c.args.number (function_of [] c.args.value)) c.in_ok-reach.ensures.same

pub returns-clause-closed : goal.returns-clause-closed
returns-clause-closed c = λ h. closed-set c.reach.new.known.items c.args.number c.args.value c.in_ok-reach.ensures.reached (c.in_ok-reach.ensures.closed h) c.requires
