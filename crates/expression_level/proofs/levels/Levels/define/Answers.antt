use Rattle.std.proofs.Common.{[], take, ap, subst, ◌∙◌}
use Rattle.plain_syntax.specs.Syntax.{term_of}
use Rattle.expression_level.specs.Levels.{has_fault, bound}
use Rattle.expression_level.specs.Weights.{function_of, depth_of, primed_first}
use Rattle.expression_level.specs.Weights.Known.{defined}
use Rattle.expression_level.specs.Scope.{names_of, weight_of, with_more}
use Rattle.expression_level.specs.Store.{AllClosed, levels_of}
use Rattle.expression_level.proofs.Kept.{definition-is, least-is, primed-is}
use Rattle.expression_level.proofs.levels.Levels.define.Goals as goal

pub keep-requires : goal.keep-requires
keep-requires c = ap depth_of c.in_ok-kept.ensures.known

pub returns : goal.returns
returns c =
    let ss = c.args.symbols.now in
    let es = c.args.entries.now in
    let ks = c.args.self.now in
    let ps = c.args.params.now in
    let t = term_of c.args.body.now in
    let h = subst AllClosed c.self.view_is c.self.invariant in
    let names = c.in_ok-inner.ensures.bound ∙ ap (with_more 0 ps) (c.new-names.ensures ∙ ap (names_of ss es) (c.deref.ensures.value ∙ c.self.view_is)) in
    let inner = c.in_ok-inner.ensures.depth in
    let w = c.in_ok-weight.ensures.weight ∙ (λ i. weight_of (names i) (inner i) (c.constant-at.ensures i) t) in
    let made = ap (function_of []) (c.in_ok-kept.ensures.known ∙ (λ i. defined 0 (w i).least (take (inner i) (w i).uses) (has_fault (w i).faults))) ∙ definition-is ss es ks h ps t in
    record {
      level = ap (λ x. x.least) (c.weight.view_is ∙ w) ∙ least-is ss es ks h ps t;
      primed = c.in_ok-primed.ensures ∙ (λ i. primed_first (w i).uses (inner i)) ∙ primed-is ss es ks h ps t;
      defined = c.in_ok-keep.ensures.kept ∙ (λ i. bound c.args.number (made i) (levels_of (c.self.view_is i)));
    }
