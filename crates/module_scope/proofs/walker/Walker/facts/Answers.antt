use Rattle.std.proofs.Common.{sym, ap}
use Rattle.module_scope.specs.Names.{facts, each, unfolded}
use Rattle.module_scope.proofs.Visits.{because}
use Rattle.module_scope.proofs.walker.Walker.facts.Goals as goal

pub returns : goal.returns
unfolding facts
returns c = because _ _ _ _ (ap (each unfolded c.args.decls.now) (sym c.in_ok-cite_all.ensures)) c.unfold_all.ensures
