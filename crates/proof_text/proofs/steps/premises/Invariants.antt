use Rattle.std.proofs.Common.{◌≡◌, ◌-◌}
use Rattle.proof_text.specs.Reading.{number}
use Rattle.proof_text.specs.Readers.{premises, is_free, without, without_all}
use Rattle.proof_text.proofs.ReadLaws.{Going}
use Rattle.proof_text.proofs.steps.premises.Given as goal

abbrev pub invariant-loop-i : goal.invariant-loop-i
invariant-loop-i l = record {
  going : Going (λ free. number (is_free free)) without (premises l.count l.fn.free l.fn.cursor) l.items (l.count - l.i) l.free l.cursor;
  free : l.free ≡ without_all l.fn.free l.items;
}
