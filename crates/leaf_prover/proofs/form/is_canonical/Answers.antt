use Rattle.std.proofs.Common.{◌∙◌, ap, sym, subst, ◌≤◌, ◌<◌}
use Rattle.core_expr.specs.Heads.{is_canonical_kind}
use Rattle.leaf_prover.proofs.NodeLaws.{node-fails, node-passes, all-passed}
use Rattle.leaf_prover.proofs.form.is_canonical.Goals as goal

pub returns-then-not-is_canonical_kind : goal.returns-then-not-is_canonical_kind
returns-then-not-is_canonical_kind c =
    sym (node-fails c.args.e.now c.loop-i.i (subst (λ n. c.loop-i.i < n) c.length-i-end.ensures.value c.loop-i-test.true) c.loop-i.invariant
    (ap is_canonical_kind (sym c.kind.ensures.row) ∙ sym c.is_canonical_kind.ensures ∙ c.if-not-is_canonical_kind.true))

pub loop-i-preserved : goal.loop-i-preserved
loop-i-preserved c =
    node-passes c.args.e.now c.loop-i.i (subst (λ n. c.loop-i.i < n) c.length-i-end.ensures.value c.loop-i-test.true) c.loop-i.invariant
    (ap is_canonical_kind (sym c.kind.ensures.row) ∙ sym c.is_canonical_kind.ensures ∙ c.if-not-is_canonical_kind.false)

pub returns : goal.returns
returns c = sym (all-passed c.args.e.now c.loop-i.i (subst (λ n. n ≤ c.loop-i.i) c.length-i-end.ensures.value c.loop-i-test.false) c.loop-i.invariant)
