use Rattle.std.proofs.Common.{length, get_or}
use Rattle.term_bank.proofs.InstLaws.{Extends-trans}
use Rattle.term_bank.proofs.TableLaws.{AreBelow-at}
use Rattle.term_shapes.proofs.Extending.{below-extend}
use Rattle.branch_state.specs.Parts.{shown}
use Rattle.tableau_search.specs.Entries.{branch_of}
use Rattle.tableau_search.proofs.LiftLaws.{branch_kept}
use Rattle.literal_ranks.specs.Seeking.{sought_at}
use Rattle.branch_values.proofs.Reasoning.{known_grown}
use Rattle.literal_ranks.proofs.Finding.{first_next, first_found, first_end}
use Rattle.literal_ranks.proofs.sought.first_of.Goals as goal

pub sought_at-requires-clause-within : goal.sought_at-requires-clause-within
sought_at-requires-clause-within c = below-extend c.args.bank.now c.loop-k.bank (get_or c.args.terms.now c.loop-k.k 0) c.loop-k.invariant.extends (AreBelow-at (length c.args.bank.now) c.args.terms.now c.loop-k.k c.requires.below c.loop-k-test.true)

pub sought_at-requires-clause-known : goal.sought_at-requires-clause-known
sought_at-requires-clause-known c = known_grown c.args.bank.now c.loop-k.bank (shown c.args.parts.now).now c.loop-k.invariant.extends c.requires.known

pub loop-k-preserved : goal.loop-k-preserved
loop-k-preserved c =
    let ts = c.args.bank.now in
    let us = c.loop-k.bank in
    let vs = c.sought_at.new.bank in
    let es = (shown c.args.parts.now).now in
    record {
      passed = first_next (sought_at c.args.sought) ts us vs (branch_of ts es) (branch_of us es) c.args.terms.now c.loop-k.k c.loop-k.invariant.extends (branch_kept ts us es c.loop-k.invariant.extends c.requires.known) c.requires.below c.loop-k-test.true c.in_ok-t.field-0 c.in_ok-t.ensures.ok c.in-None.is c.loop-k.invariant.passed;
      extends = Extends-trans ts us vs c.loop-k.invariant.extends c.sought_at.ensures.extends;
      distinct = c.sought_at.ensures.distinct;
    }

pub returns-in-Some-clause-ok : goal.returns-in-Some-clause-ok
returns-in-Some-clause-ok c =
    let ts = c.args.bank.now in
    let us = c.loop-k.bank in
    let vs = c.sought_at.new.bank in
    let es = (shown c.args.parts.now).now in
    first_found (sought_at c.args.sought) ts us vs (branch_of ts es) (branch_of us es) c.args.terms.now c.loop-k.k c.loop-k.invariant.extends (branch_kept ts us es c.loop-k.invariant.extends c.requires.known) c.requires.below c.loop-k-test.true c.in_ok-t.field-0 c.in-Some.t c.in_ok-t.ensures.ok c.in-Some.is c.loop-k.invariant.passed

pub returns-clause-ok : goal.returns-clause-ok
returns-clause-ok c = first_end (sought_at c.args.sought) c.args.bank.now c.loop-k.bank (branch_of c.args.bank.now (shown c.args.parts.now).now) c.args.terms.now c.loop-k.k c.loop-k-test.false c.loop-k.invariant.passed
