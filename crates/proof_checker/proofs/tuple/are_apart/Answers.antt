use Rattle.std.proofs.Common.{inl, inr}
use Rattle.proof_checker.proofs.InstanceLaws.{apart_same, apart_yes, apart_by_head, apart_by_heads}
use Rattle.proof_checker.proofs.tuple.are_apart.Goals as goal

pub returns-then-l-m : goal.returns-then-l-m
returns-then-l-m c = apart_same c.args.bank.now c.args.l c.args.m c.if-l-m.true

pub returns-then-head-other : goal.returns-then-head-other
returns-then-head-other c = apart_by_heads c.args.bank.now c.args.l c.args.m c.head_at-head.result c.head_at-other.result c.head_at-head.ensures c.head_at-other.ensures c.if-head-other.true

pub returns-then-head-eq2 : goal.returns-then-head-eq2
returns-then-head-eq2 c = apart_yes c.args.bank.now c.args.l c.args.m c.head_at-head.result c.head_at-other.result c.count-count.ensures.distinct c.requires.below.0 c.requires.below.1.0 c.head_at-head.ensures c.head_at-other.ensures c.if-head-other.false (inl c.if-head-eq2.true) c.if-l-m.false

pub returns-then-head-eq3 : goal.returns-then-head-eq3
returns-then-head-eq3 c = apart_yes c.args.bank.now c.args.l c.args.m c.head_at-head.result c.head_at-other.result c.count-count.ensures.distinct c.requires.below.0 c.requires.below.1.0 c.head_at-head.ensures c.head_at-other.ensures c.if-head-other.false (inr c.if-head-eq3.true) c.if-l-m.false

pub returns : goal.returns
returns c = apart_by_head c.args.bank.now c.args.l c.args.m c.head_at-head.result c.head_at-head.ensures c.if-head-eq2.false c.if-head-eq3.false
