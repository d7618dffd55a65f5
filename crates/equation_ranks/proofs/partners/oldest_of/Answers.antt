use Rattle.std.proofs.Common.{subst, sym}
use Rattle.branch_state.specs.Parts.{shown}
use Rattle.equation_ranks.specs.Partners.{is_named, is_either, IsOldest}
use Rattle.equation_ranks.proofs.PlaceLaws.{oldest_either}
use Rattle.equation_ranks.proofs.partners.oldest_of.Goals as goal

pub returns : goal.returns
returns c =
    let es = (shown c.args.parts.now).now in
    subst (IsOldest (is_either c.args.a c.args.b es) c.args.i) (sym c.older_of.ensures)
    (oldest_either (is_named c.args.a es) (is_named c.args.b es) c.args.i c.place_before.result c.place_before-2.result c.place_before.ensures c.place_before-2.ensures)
