use Rattle.std.proofs.Common.{map, sym, ◌∙◌}
use Rattle.plain_syntax.specs.Syntax.{unit_of}
use Rattle.module_scope.specs.Known.{exports_of}
use Rattle.module_scope.specs.Names.{each, unit}
use Rattle.module_scope.specs.Resolution.{module_names, extend}
use Rattle.module_scope.proofs.Visits.{because}
use Rattle.module_scope.proofs.walker.Walker.walk.Goals as goal

pub returns : goal.returns
unfolding module_names
returns c =
    let es = exports_of c.args.exports.now in
    let extended = c.in_ok-extend_all.ensures ∙ (λ j. each (extend es) (c.as_slice.ensures j) (c.begin.ensures j)) in
    because _ _ _ _ (λ i. each unit (map unit_of (sym c.as_slice-2.ensures i)) (sym extended i)) c.units.ensures
