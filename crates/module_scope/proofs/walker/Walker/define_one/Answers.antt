use Rattle.std.proofs.Common.{sym, ap, ◌∙◌}
use Rattle.plain_syntax.specs.Plain.{Defs}
use Rattle.plain_syntax.specs.Plain.Defs.{end_defs}
use Rattle.plain_syntax.specs.Syntax.{term_of}
use Rattle.plain_syntax.proofs.Forms.{is-def}
use Rattle.module_scope.specs.Known.{book_of}
use Rattle.module_scope.specs.Names.{define, definitions, judged, judged_bodies}
use Rattle.module_scope.proofs.Visits.{because}
use Rattle.module_scope.proofs.walker.Walker.define_one.Goals as goal

pub returns : goal.returns
unfolding define
returns c =
    let b = book_of c.args.self.now in
    because _ _ _ _
    (ap (λ (f : Defs → Defs). judged_bodies (f end_defs) (definitions (f end_defs) b)) (is-def c.args.def.now)
    ∙ (λ i. judged (term_of (sym c.get.ensures i)) (sym c.in_ok-definition.ensures i))) c.judge.ensures
