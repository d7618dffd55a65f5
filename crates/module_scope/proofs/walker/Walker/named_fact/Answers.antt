use Rattle.std.proofs.Common.{◌<◌, ◌≤◌, subst, ap, ◌∙◌}
use Rattle.module_scope.specs.Scope.{found}
use Rattle.module_scope.specs.Known.{book_of}
use Rattle.module_scope.specs.Names.{fact_of, scope_of}
use Rattle.module_scope.proofs.Cited.{no-fact, fact-applied, fact-alone}
use Rattle.module_scope.proofs.walker.Walker.named_fact.Goals as goal

pub returns-in_default : goal.returns-in_default
returns-in_default c = no-fact c.args.node.now (book_of c.args.self.now) c.in_default.not-Name

pub returns-then-len-gt0 : goal.returns-then-len-gt0
returns-then-len-gt0 c = fact-applied c.args.node.now (book_of c.args.self.now) c.in-Name.name c.in-Name.is (subst (λ k. 0 < k) c.len.ensures c.if-len-gt0.true)

pub returns : goal.returns
returns c =
    let b = book_of c.args.self.now in
    c.fact.ensures ∙ ap (λ w. fact_of b (found w (scope_of b))) c.bytes.ensures
    ∙ fact-alone c.args.node.now b c.in-Name.name c.in-Name.is (subst (λ k. k ≤ 0) c.len.ensures c.if-len-gt0.false)
