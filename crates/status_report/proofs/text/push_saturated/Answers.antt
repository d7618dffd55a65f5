use Rattle.status_report.proofs.Pieces.{on_ok_along, two_pieces}
use Rattle.status_report.proofs.text.push_saturated.Goals as goal

pub returns : goal.returns
returns c =
    on_ok_along c.push_valuation.result _ _ (two_pieces c.args.out.now.items _ _ c.push_turns.new.out.items c.push_valuation.new.out.items c.in_ok-push_turns.ensures)
    c.push_valuation.ensures
