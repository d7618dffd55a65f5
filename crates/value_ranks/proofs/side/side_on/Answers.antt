use Rattle.std.proofs.Common.{[], length, ◌-◌, arith, refl, sym, get_or, append-nil}
use Rattle.term_bank.proofs.InstLaws.{Extends-trans}
use Rattle.term_bank.proofs.TableLaws.{AreBelow-at}
use Rattle.term_shapes.proofs.Extending.{below-extend}
use Rattle.branch_state.specs.Parts.{shown}
use Rattle.tableau_search.specs.Entries.{branch_of}
use Rattle.tableau_search.proofs.LiftLaws.{branch_kept}
use Rattle.branch_values.proofs.Reasoning.{known_grown}
use Rattle.value_ranks.proofs.Siding.{side_turn, side_all, side_none}
use Rattle.value_ranks.proofs.side.side_on.Goals as goal

pub value_on-requires-clause-within : goal.value_on-requires-clause-within
value_on-requires-clause-within c =
    let l = c.loop-k-test.true in
    below-extend c.args.bank.now c.loop-k.bank (get_or c.args.list.now (length c.args.list.now - 1 - c.loop-k.k) 0) c.loop-k.invariant.extends (AreBelow-at (length c.args.bank.now) c.args.list.now (length c.args.list.now - 1 - c.loop-k.k) c.requires.below (omega (arith, l)))

pub value_on-requires-clause-known : goal.value_on-requires-clause-known
value_on-requires-clause-known c = known_grown c.args.bank.now c.loop-k.bank (shown c.args.parts.now).now c.loop-k.invariant.extends c.requires.known

pub loop-k-init : goal.loop-k-init
loop-k-init c =
    record {
      side = side_none c.args.bank.now (branch_of c.args.bank.now (shown c.args.parts.now).now) c.args.list.now;
      extends = ([], sym (append-nil c.args.bank.now));
      distinct = c.count-count.ensures.distinct;
    }

pub loop-k-preserved : goal.loop-k-preserved
loop-k-preserved c =
    let ts = c.args.bank.now in
    let us = c.loop-k.bank in
    let vs = c.value_on.new.bank in
    let es = (shown c.args.parts.now).now in
    let list = c.args.list.now in
    record {
      side = side_turn ts us vs (branch_of ts es) (branch_of us es) list c.loop-k.k (get_or list (length list - 1 - c.loop-k.k) 0) c.in_ok-value.value c.loop-k.side c.side_with-side.result c.loop-k.invariant.extends c.value_on.ensures.extends (branch_kept ts us es c.loop-k.invariant.extends c.requires.known) c.requires.below c.loop-k-test.true refl c.in_ok-value.ensures.value c.side_with-side.ensures c.loop-k.invariant.side;
      extends = Extends-trans ts us vs c.loop-k.invariant.extends c.value_on.ensures.extends;
      distinct = c.value_on.ensures.distinct;
    }

pub returns-clause-ok : goal.returns-clause-ok
returns-clause-ok c = side_all c.args.bank.now c.loop-k.bank (branch_of c.args.bank.now (shown c.args.parts.now).now) c.args.list.now c.loop-k.k c.loop-k.side c.loop-k-test.false c.loop-k.invariant.side
