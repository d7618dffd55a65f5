use Rattle.std.proofs.Common.{◌≡◌, take}
use Rattle.std.specs.List.{fold}
use Rattle.seq_translate.specs.Marks.{clear_mark}
use Rattle.seq_translate.proofs.marks.clear_all.Given as goal

abbrev pub invariant-loop-place : goal.invariant-loop-place
invariant-loop-place l = l.marks.items ≡ fold clear_mark l.initial.marks.items (take l.place-index l.places)
