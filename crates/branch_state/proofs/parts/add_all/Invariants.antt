use Rattle.std.proofs.Common.{◌≡◌, take}
use Rattle.branch_state.specs.Shown.{all_added}
use Rattle.branch_state.specs.Parts.{Holds, shown}
use Rattle.branch_state.proofs.parts.add_all.Given as goal

abbrev pub invariant-loop-new : goal.invariant-loop-new
invariant-loop-new l = record { held : Holds l.parts; shown : shown l.parts ≡ all_added (shown l.fn.parts) (take l.new-index l.news) l.needs }
