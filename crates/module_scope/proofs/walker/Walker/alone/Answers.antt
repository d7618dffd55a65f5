use Rattle.std.proofs.Common.{sym, ap}
use Rattle.plain_syntax.specs.Syntax.{term_of}
use Rattle.module_scope.specs.Names.{alone, judged}
use Rattle.module_scope.proofs.Visits.{because}
use Rattle.module_scope.proofs.walker.Walker.alone.Goals as goal

pub returns : goal.returns
unfolding alone
returns c = because _ _ _ _ (ap (judged (term_of c.args.node.now)) (sym c.in_ok-expression.ensures)) c.judge.ensures
