use Rattle.branch_state.specs.Parts.{shown}
use Rattle.instance_ranks.proofs.PlaceLaws.{entry_put, entry_live}
use Rattle.instance_ranks.proofs.live.put_entry.Goals as goal

pub returns-in-Some-clause-live : goal.returns-in-Some-clause-live
returns-in-Some-clause-live c =
    entry_live c.put_in.result c.args.bank.now (shown c.args.parts.now).now c.in-Some.x c.args.list.now.items c.put_in.new.list.items c.in-Some.ensures.live c.requires.live c.put_in.ensures

pub returns-in-Some-clause-places : goal.returns-in-Some-clause-places
returns-in-Some-clause-places c =
    entry_put c.put_in.result c.args.bank.now (shown c.args.parts.now).now c.in-Some.x _ _ c.args.list.now.items c.put_in.new.list.items c.in-Some.is c.place_at.ensures.place c.put_in.ensures
