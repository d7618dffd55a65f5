use Rattle.std.proofs.Common.{◌∙◌, ◌≤◌, ◌<◌, sym, ap, subst}
use Rattle.obligation.specs.Nodes.{is_symbol}
use Rattle.obligation.proofs.Absent.{found-at, passed-at, none-found}
use Rattle.obligation.proofs.unfolding.mentions.Goals as goal

pub returns-then-is_symbol : goal.returns-then-is_symbol
returns-then-is_symbol c =
    sym (found-at c.args.symbol c.args.e.now c.loop-i.i (subst (λ n. c.loop-i.i < n) c.length-i-end.ensures.value c.loop-i-test.true) c.loop-i.invariant
    (ap (is_symbol c.args.symbol) (sym c.kind.ensures.row) ∙ sym c.is_symbol.ensures ∙ c.if-is_symbol.true))

pub loop-i-preserved : goal.loop-i-preserved
loop-i-preserved c =
    passed-at c.args.symbol c.args.e.now c.loop-i.i (subst (λ n. c.loop-i.i < n) c.length-i-end.ensures.value c.loop-i-test.true) c.loop-i.invariant
    (ap (is_symbol c.args.symbol) (sym c.kind.ensures.row) ∙ sym c.is_symbol.ensures ∙ c.if-is_symbol.false)

pub returns : goal.returns
returns c = sym (none-found c.args.symbol c.args.e.now c.loop-i.i (subst (λ n. n ≤ c.loop-i.i) c.length-i-end.ensures.value c.loop-i-test.false) c.loop-i.invariant)
