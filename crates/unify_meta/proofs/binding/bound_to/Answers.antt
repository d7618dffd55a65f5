use Rattle.std.proofs.Common.{◌∙◌, sym}
use Rattle.unify_meta.proofs.BindingLaws.{terms_at, terms_tail, bound_past, bound_here}
use Rattle.unify_meta.proofs.binding.bound_to.Goals as goal

pub returns-then-b-name-clause-tree : goal.returns-then-b-name-clause-tree
returns-then-b-name-clause-tree c =
    λ ts. sym (c.loop-b.invariant.same ts ∙ bound_here c.args.name ts c.args.bound.now c.loop-b.b-index (record { name = 0; term = 0 }) c.loop-b-test.true c.if-b-name.true)

pub returns-then-b-name-clause-below : goal.returns-then-b-name-clause-below
returns-then-b-name-clause-below c =
    λ n h. terms_at n c.args.bound.now c.loop-b.b-index (record { name = 0; term = 0 }) h c.loop-b-test.true

pub loop-b-preserved : goal.loop-b-preserved
loop-b-preserved c =
    record {
      same = λ ts. c.loop-b.invariant.same ts ∙ bound_past c.args.name ts c.args.bound.now c.loop-b.b-index (record { name = 0; term = 0 }) c.loop-b-test.true c.if-b-name.false;
      below = λ n h. terms_tail n c.args.bound.now c.loop-b.b-index (record { name = 0; term = 0 }) c.loop-b-test.true (c.loop-b.invariant.below n h);
    }
