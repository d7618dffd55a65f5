use Rattle.std.proofs.Common.{length}
use Rattle.term_bank.proofs.InstLaws.{Extends-trans}
use Rattle.search_definition.specs.Instances.{by_atom}
use Rattle.branch_state.specs.Parts.{shown}
use Rattle.tableau_search.specs.Entries.{branch_of}
use Rattle.tableau_search.proofs.RankLaws.{known_more}
use Rattle.tableau_search.proofs.ClosedLaws.{closed_kept}
use Rattle.formula_rules.specs.Answers.{universal_of}
use Rattle.instance_terms.specs.Fresh.{fresh_of}
use Rattle.instance_ranks.proofs.KeepLaws.{below_kept, body_kept}
use Rattle.instance_ranks.proofs.WalkLaws.{walk_miss, walk_hit, atom_below, atoms_next, own_stays}
use Rattle.instance_ranks.proofs.atoms.by_own_atoms.Goals as goal

pub by_atom-requires-clause-known : goal.by_atom-requires-clause-known
by_atom-requires-clause-known c = known_more c.args.bank.now c.loop-i.bank (shown c.args.parts.now).now c.loop-i.invariant.extends c.requires.known

pub by_atom-requires-clause-closed : goal.by_atom-requires-clause-closed
by_atom-requires-clause-closed c = closed_kept c.args.bank.now c.loop-i.bank (shown c.args.parts.now).now c.loop-i.invariant.extends c.requires.known c.requires.closed

pub by_atom-requires-clause-sought : goal.by_atom-requires-clause-sought
by_atom-requires-clause-sought c =
    let ts = c.args.bank.now in
    let x = c.loop-i.invariant.extends in
    record {
      body = body_kept ts c.loop-i.bank c.args.u x c.requires.body;
      atom = below_kept ts c.loop-i.bank _ x (atom_below (length ts) c.args.atoms.now c.loop-i.i _ c.requires.below c.loop-i-test.true);
    }

pub loop-i-preserved : goal.loop-i-preserved
loop-i-preserved c =
    let ts = c.args.bank.now in
    let now = c.loop-i.bank in
    let mid = c.by_atom.new.bank in
    let es = (shown c.args.parts.now).now in
    let w = fresh_of c.args.w in
    let x = c.loop-i.invariant.extends in
    record {
      extends = Extends-trans ts now mid x c.by_atom.ensures.extends;
      distinct = c.by_atom.ensures.distinct;
      rest = walk_miss mid c.in_ok-term.field-0 _ _ _ _ _ (atoms_next (by_atom (branch_of ts es) w (universal_of ts c.args.u)) ts c.args.atoms.now c.loop-i.i _ c.loop-i-test.true) c.loop-i.invariant.rest
          (own_stays ts now es w c.args.u _ x c.requires.known c.requires.body (atom_below (length ts) c.args.atoms.now c.loop-i.i _ c.requires.below c.loop-i-test.true)) c.in-None.is c.in_ok-term.ensures.ok;
    }

pub returns-in-Some-clause-ok : goal.returns-in-Some-clause-ok
returns-in-Some-clause-ok c =
    let ts = c.args.bank.now in
    let es = (shown c.args.parts.now).now in
    let w = fresh_of c.args.w in
    walk_hit c.by_atom.new.bank c.in_ok-term.field-0 c.in-Some.term _ _ _ _ _ (atoms_next (by_atom (branch_of ts es) w (universal_of ts c.args.u)) ts c.args.atoms.now c.loop-i.i _ c.loop-i-test.true) c.loop-i.invariant.rest
    (own_stays ts c.loop-i.bank es w c.args.u _ c.loop-i.invariant.extends c.requires.known c.requires.body (atom_below (length ts) c.args.atoms.now c.loop-i.i _ c.requires.below c.loop-i-test.true)) c.in-Some.is c.in_ok-term.ensures.ok
