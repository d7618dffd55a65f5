use Rattle.std.proofs.Common.{◌+◌, ◌-◌, ◌*◌, length}
use Rattle.module_shelf.proofs.Steps.{Walks}
use Rattle.module_shelf.proofs.loader.+walk.Given as goal

-- a visit comes before the module's own walk, where as many may stand on the path
abbrev pub decreases-visit : goal.decreases-visit
decreases-visit g l = 2 * (64 - length l.path.now) + 1

abbrev pub decreases-complete : goal.decreases-complete
decreases-complete g l = 2 * (64 - length l.path.now)

abbrev pub invariant-complete-loop-extended : goal.invariant-complete-loop-extended
invariant-complete-loop-extended g l = Walks l.fn.path l.fn.module l.fn.done (g.S.Shelf.folder l.fn.shelf, g.S.Shelf.count l.fn.shelf) (g.S.Shelf.folder l.shelf, g.S.Shelf.count l.shelf) l.extended-index l.now l.done
