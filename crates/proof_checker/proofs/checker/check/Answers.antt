use Rattle.std.proofs.Common.{◌≡◌, length, map, sym, ap, ◌∙◌}
use Rattle.core_expr.specs.Nodes.{trees_of}
use Rattle.seq_calculus.specs.Lists.{AreSteps, node_of}
use Rattle.term_bank.proofs.InstLaws.{Extends-trans}
use Rattle.proof_checker.specs.Tables.{ArePlaced}
use Rattle.proof_checker.proofs.SideLaws.{AreFormulas-extend}
use Rattle.proof_checker.proofs.CheckLaws.{checked, table_length, places_later, table_in}
use Rattle.proof_checker.proofs.checker.check.Goals as goal

pub run-requires-clause-steps : goal.run-requires-clause-steps
run-requires-clause-steps c =
    let p = table_in c.add_table.new.bank c.args.proof.now c.nodes.result.now c.in_ok-places.places.items c.nodes.ensures.nodes c.in_ok-places.ensures.ok in
    let n : length c.args.proof.now.nodes ≡ length c.as_slice-2.result.now = table_length c.add_table.new.bank c.args.proof.now c.in_ok-places.places.items p ∙ ap length (sym c.as_slice-2.ensures.value) in
    coe 0 1 (i. AreSteps (n i) 0 (sym c.steps-steps.ensures.steps i)) c.steps-steps.ensures.lists.steps

pub run-requires-clause-places : goal.run-requires-clause-places
run-requires-clause-places c =
    let p = table_in c.add_table.new.bank c.args.proof.now c.nodes.result.now c.in_ok-places.places.items c.nodes.ensures.nodes c.in_ok-places.ensures.ok in
    rw c.as_slice-2.ensures.value (places_later c.add_table.new.bank c.intern.new.self _ c.in_ok-places.places.items (Extends-trans c.add_table.new.bank c.put_facts.new.bank c.intern.new.self c.put_facts.ensures.extends c.intern.ensures.extends) p)

pub run-requires-clause-left : goal.run-requires-clause-left
run-requires-clause-left c = AreFormulas-extend c.put_facts.new.bank c.intern.new.self c.put_facts.new.left.trail c.intern.ensures.extends c.in_ok-put_facts.ensures.ok.formulas

pub returns : goal.returns
returns c =
    let p = table_in c.add_table.new.bank c.args.proof.now c.nodes.result.now c.in_ok-places.places.items c.nodes.ensures.nodes c.in_ok-places.ensures.ok in
    let q : ArePlaced c.add_table.new.bank (trees_of (map node_of c.args.proof.now.nodes)) c.as_slice-2.result.now = rw c.as_slice-2.ensures.value p in
    checked c.add_table.new.bank c.put_facts.new.bank c.intern.new.self c.args.proof.now c.as_slice-2.result.now c.put_facts.new.left c.args.canon.now.facts c.in_ok-goal.goal c.args.canon.now.goal c.in_ok-checked.checked q c.put_facts.ensures.extends c.intern.ensures.extends (rw (sym c.as_slice.ensures) c.in_ok-put_facts.ensures.ok) c.in_ok-goal.ensures.ok (rw c.steps-steps.ensures.steps at c.in_ok-checked.ensures)
