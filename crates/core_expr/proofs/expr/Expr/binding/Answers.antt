use Rattle.std.proofs.Common.{◌∙◌}
use Rattle.core_expr.specs.Tree.Tree.{bind}
use Rattle.core_expr.specs.Heads.{parts_of, front, back}
use Rattle.core_expr.specs.Coding.{front-push, back-push}
use Rattle.core_expr.proofs.FlatLaws.{ok_same}
use Rattle.core_expr.proofs.expr.Expr.binding.Goals as goal

pub returns : goal.returns
returns c =
    let ts = c.args.parts.items in
    let all = c.push.new.self.items in
    ok_same c.of_kind.result (bind c.args.binder (parts_of (front all)) (back all)) (bind c.args.binder (parts_of ts) c.args.body)
    ((λ i. bind c.args.binder (parts_of (front (c.in_ok-push.ensures.items i))) (back (c.in_ok-push.ensures.items i)))
    ∙ (λ i. bind c.args.binder (parts_of (front-push ts c.args.body i)) (back-push ts c.args.body i)))
    c.of_kind.ensures
