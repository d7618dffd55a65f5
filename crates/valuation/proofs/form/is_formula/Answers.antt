use Rattle.std.proofs.Common.{◌∙◌, sym, subst, ◌≤◌, ◌<◌}
use Rattle.valuation.specs.Forms.{is_connective}
use Rattle.valuation.proofs.FormLaws.{node-fails, node-passes, all-passed}
use Rattle.valuation.proofs.TruthLaws.{is_true}
use Rattle.valuation.proofs.form.is_formula.Goals as goal

pub returns-then-not-is_connective : goal.returns-then-not-is_connective
returns-then-not-is_connective c =
    sym (node-fails c.args.e.now c.loop-i.i (subst (λ n. c.loop-i.i < n) c.length-i-end.ensures.value c.loop-i-test.true) c.loop-i.invariant
    ((λ j. is_connective (sym c.kind.ensures.row j) (sym c.parts.ensures.row j)) ∙ sym c.is_connective.ensures ∙ c.if-not-is_connective.true) (is_true _ c.length-i-end.ensures.formed))

pub loop-i-preserved : goal.loop-i-preserved
loop-i-preserved c =
    node-passes c.args.e.now c.loop-i.i (subst (λ n. c.loop-i.i < n) c.length-i-end.ensures.value c.loop-i-test.true) c.loop-i.invariant
    ((λ j. is_connective (sym c.kind.ensures.row j) (sym c.parts.ensures.row j)) ∙ sym c.is_connective.ensures ∙ c.if-not-is_connective.false)

pub returns : goal.returns
returns c = sym (all-passed c.args.e.now c.loop-i.i (subst (λ n. n ≤ c.loop-i.i) c.length-i-end.ensures.value c.loop-i-test.false) c.loop-i.invariant (is_true _ c.length-i-end.ensures.formed))
