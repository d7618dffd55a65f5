use Rattle.std.proofs.Common.{length}
use Rattle.branch_state.specs.Parts.{shown}
use Rattle.instance_ranks.proofs.EntryLaws.{entry_below, entry_closed, body_of, is_live, live_here}
use Rattle.instance_ranks.proofs.live.place_at.Goals as goal

pub universal-requires : goal.universal-requires
universal-requires c = entry_below (length c.args.bank.now) (shown c.args.parts.now).now c.args.i c.entry-item.result c.requires.known c.requires.within c.entry-item.ensures

pub returns-in-Some-clause-live : goal.returns-in-Some-clause-live
returns-in-Some-clause-live c =
    let ts = c.args.bank.now in
    let es = (shown c.args.parts.now).now in
    let x = c.entry-item.result in
    record {
      within = c.requires.within;
      lives = live_here es c.args.i x c.entry-item.ensures (is_live x.live c.if-not-item.false);
      formula = entry_below (length ts) es c.args.i x c.requires.known c.requires.within c.entry-item.ensures;
      body = body_of ts x.formula c.in-Some.u c.in-Some.ensures (entry_closed ts es c.args.i x c.requires.closed c.requires.within c.entry-item.ensures);
    }
