use Rattle.std.proofs.Common.{[], refl, sym, subst}
use Rattle.theorem_leaves.specs.Passing.{AreDone}
use Rattle.theorem_leaves.specs.Modules.{nothing}
use Rattle.theorem_leaves.proofs.modules.Whole.modules.Goals as goal

pub loop-number-init : goal.loop-number-init
loop-number-init c = (nothing, record { done = subst (λ l. AreDone l []) (sym c.new.ensures.items) tt; before = refl; chapters = c.new-2.ensures }, refl)
