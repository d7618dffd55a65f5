use Rattle.term_bank.proofs.InstLaws.{Extends-trans}
use Rattle.leaf_prover.proofs.StartLaws.{canonical_at, facts_more}
use Rattle.leaf_prover.proofs.start.intern_facts.Goals as goal

pub intern-requires : goal.intern-requires
intern-requires c = record { canonical = canonical_at c.args.facts.now c.loop-i.i c.index-facts-i.result c.requires c.loop-i-test.true c.index-facts-i.is }

pub loop-i-preserved : goal.loop-i-preserved
loop-i-preserved c = (
  facts_more c.loop-i.bank c.intern.new.self c.loop-i.list.items c.push.new.self.items c.args.facts.now c.loop-i.i c.in_ok-fact.fact c.index-facts-i.result c.intern.ensures.extends c.loop-i.invariant.0 c.loop-i-test.true c.index-facts-i.is
      c.in_ok-fact.ensures.ok c.in_ok-push.ensures.items,
  Extends-trans c.args.bank.now c.loop-i.bank c.intern.new.self c.loop-i.invariant.1 c.intern.ensures.extends,
  c.intern.ensures.distinct,
)
