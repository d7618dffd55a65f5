use Rattle.std.proofs.Common.{ℕ, take}
use Rattle.std.specs.Prelude.{◌⊎◌, ◌↔◌}
use Rattle.term_bank.specs.Images.{In}
use Rattle.term_walks.proofs.touched.add_parts.Given as goal

abbrev pub invariant-loop-part : goal.invariant-loop-part
invariant-loop-part l = (q : ℕ) → In q l.todo.keys ↔ (In q (take l.part-index l.parts) ⊎ In q l.fn.todo.keys)
