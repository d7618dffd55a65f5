use Rattle.std.proofs.Common.{fold, sym, ap, ◌∙◌}
use Rattle.plain_syntax.specs.Syntax.{each_def}
use Rattle.module_scope.specs.Known.{book_of}
use Rattle.module_scope.specs.Names.{define, definitions}
use Rattle.module_scope.specs.Visits.{body_step}
use Rattle.module_scope.proofs.Visits.{because, defines-all, judges-all}
use Rattle.module_scope.proofs.walker.Walker.define_all.Goals as goal

pub returns : goal.returns
unfolding define
returns c =
    let ds = c.args.defs.now in
    let b = book_of c.args.self.now in
    because _ _ _ _ (judges-all ds (definitions (each_def ds) b) ∙ ap (λ x. fold body_step x ds) (defines-all ds b ∙ sym c.in_ok-definitions.ensures)) c.judge_bodies.ensures
