use Rattle.std.proofs.Common.{◌≡◌, None, map, drop, fold}
use Rattle.std.specs.Option.{option_map}
use Rattle.module_scope.specs.Scope.{seen}
use Rattle.module_scope.specs.Resolution.{clash_step}
use Rattle.module_scope.proofs.scope.Scope.first_clash.Given as goal

abbrev pub invariant-loop-name : goal.invariant-loop-name
invariant-loop-name l =
    fold (clash_step l.self) None (map seen l.new) ≡ fold (clash_step l.self) (option_map (λ w. w.now) l.least) (map seen (drop l.name-index l.new))
