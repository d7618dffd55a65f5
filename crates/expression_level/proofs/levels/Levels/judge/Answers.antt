use Rattle.std.proofs.Common.{[], ap, subst, ◌∙◌}
use Rattle.plain_syntax.specs.Syntax.{term_of}
use Rattle.expression_level.specs.Store.{AllClosed}
use Rattle.expression_level.specs.Scope.{names_of, weight_of}
use Rattle.expression_level.proofs.Kept.{judged-is}
use Rattle.expression_level.proofs.levels.Levels.judge.Goals as goal

pub returns : goal.returns
returns c =
    let t = term_of c.args.node.now in
    let names = c.new-names.ensures ∙ ap (names_of c.args.symbols.now []) (c.deref.ensures.value ∙ c.self.view_is) in
    let w = c.least.view_is ∙ c.in_ok-least.ensures.weight ∙ (λ i. weight_of (names i) 0 (c.constant-at.ensures i) t) in
    (λ i. ((w i).least, (w i).faults)) ∙ judged-is c.args.symbols.now [] c.args.self.now (subst AllClosed c.self.view_is c.self.invariant) t
