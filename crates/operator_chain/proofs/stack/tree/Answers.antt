use Rattle.std.proofs.Common.{◌≡◌, refl, cond, Option, Some, None, sym, ◌∙◌}
use Rattle.tla_ast.specs.declared.place.Place.{Place}
use Rattle.operator_chain.specs.Chain.{fault_of}
use Rattle.operator_chain.specs.Machine.{moved_all, start, plug, Shows}
use Rattle.operator_chain.proofs.Rows.{row_of, listed-pieces}
use Rattle.operator_chain.proofs.MachineLaws.{answer_ok, answer_told}
use Rattle.operator_chain.proofs.FaultLaws.{none_tree}
use Rattle.operator_chain.proofs.stack.tree.Goals as goal

pub returns-in-Some-clause-wrong : goal.returns-in-Some-clause-wrong
returns-in-Some-clause-wrong c = λ _. (
    let pieces = c.args.pieces.items in
    let s = moved_all start pieces in
    let shows : Shows s c.in_ok-parts.field-0 = c.in_ok-parts.ensures in
    let alive = shows.is_alive in
    let wrong = shows.wrong in
    let told : c.told.result ≡ fault_of pieces =
    c.told.ensures ∙ (λ i. cond {A = Option Place} (alive i) None (wrong i)) ∙ answer_told row_of pieces (listed-pieces pieces c.requires.listed) c.requires.chain in
    let is : fault_of pieces ≡ Some c.in-Some.place = sym told ∙ c.in-Some.is in
    (c.in-Some.place, refl, none_tree pieces c.in-Some.place is, is))

pub returns-clause-ok : goal.returns-clause-ok
returns-clause-ok c =
    let pieces = c.args.pieces.items in
    let s = moved_all start pieces in
    let shows : Shows s c.in_ok-parts.field-0 = c.in_ok-parts.ensures in
    let alive = shows.is_alive in
    let wrong = shows.wrong in
    let listed = listed-pieces pieces c.requires.listed in
    let told : c.told.result ≡ fault_of pieces =
    c.told.ensures ∙ (λ i. cond {A = Option Place} (alive i) None (wrong i)) ∙ answer_told row_of pieces listed c.requires.chain in
    let none : fault_of pieces ≡ None = sym told ∙ c.in-None.is in (
      plug s.frames s.last,
      answer_ok row_of pieces listed c.requires.chain none,
      c.in_ok-close_all-in-None.ensures (s.frames, s.last) (shows.parts, shows.last),
    )
