use Rattle.std.proofs.Common.{◌≡◌, ◌-◌}
use Rattle.token_reader.specs.declared.mark.Mark.TheVariants as m
use Rattle.token_reader.specs.Input.{eat, declared}
use Rattle.token_reader.specs.Lists.{names, gathered_from, put_last}
use Rattle.token_reader.proofs.list.names.Given as goal

abbrev pub invariant-loop-turn : goal.invariant-loop-turn
invariant-loop-turn l = names l.setting l.before l.fn.cursor ≡ gathered_from (l._turn-end - l._turn) (eat l.setting m.Comma) (declared l.setting l.before) put_last l.found l.cursor
