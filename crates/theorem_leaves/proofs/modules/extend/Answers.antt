use Rattle.std.proofs.Common.{◌++◌, sym, subst, ◌∙◌}
use Rattle.theorem_leaves.specs.Passing.{HasNames}
use Rattle.theorem_leaves.proofs.Reached.{led-some, led-none}
use Rattle.theorem_leaves.proofs.modules.extend.Goals as goal

pub returns-in_ok-add_names : goal.returns-in_ok-add_names
returns-in_ok-add_names c = λ ds h.
    led-some c.args.names.now c.add_name.new.names c.add_names.new.names c.args.done.now ds c.args.name.now c.in-Some.entry.now
    (sym c.is_library.ensures ∙ c.if-is_library.false) h (sym c.in-Some.ensures) c.in_ok-add_name.ensures
    (subst (λ l. HasNames c.add_names.new.names (c.add_name.new.names ++ l)) c.as_slice.ensures c.in_ok-add_names.ensures)

pub returns-in_default : goal.returns-in_default
returns-in_default c = λ ds h. led-none c.args.names.now c.args.done.now ds c.args.name.now h (sym c.in_default.ensures)
