use Rattle.std.proofs.Common.{◌≡◌, ◌<◌, ◌-◌, ◌++◌, ◌∷◌, [], length, arith, rules, refl}
use Rattle.term_bank.proofs.InstLaws.{Extends-trans}
use Rattle.proof_checker.proofs.CheckLaws.{canonical_at, facts_step}
use Rattle.proof_checker.proofs.checker.put_facts.Goals as goal

pub intern-requires : goal.intern-requires
intern-requires c =
    let l : length c.args.facts.now - 1 - c.loop-i.i < length c.args.facts.now = omega (arith, c.loop-i-test.true) in
    record { canonical = canonical_at c.args.facts.now (length c.args.facts.now - 1 - c.loop-i.i) _ c.requires.canonical l c.index-facts-facts.is }

pub loop-i-preserved : goal.loop-i-preserved
loop-i-preserved c =
    let t : c.push.new.self ≡ c.loop-i.left.trail ++ c.in_ok-fact.fact ∷ [] = search rules in (
      facts_step c.loop-i.bank c.intern.new.self c.loop-i.left (record { trail = c.push.new.self; base = c.loop-i.left.base }) c.args.facts.now c.loop-i.i c.in_ok-fact.fact c.index-facts-facts.result c.intern.ensures.extends c.requires.closed c.loop-i-test.true c.index-facts-facts.is c.in_ok-fact.ensures.ok refl t c.loop-i.invariant.0,
      Extends-trans c.args.bank.now c.loop-i.bank c.intern.new.self c.loop-i.invariant.1 c.intern.ensures.extends,
    )
