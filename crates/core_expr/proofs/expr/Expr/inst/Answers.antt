use Rattle.std.proofs.Common.{◌≡◌, sym, ◌∙◌, ap, true}
use Rattle.core_expr.specs.Flat.{rows_of, tree_of}
use Rattle.core_expr.specs.Heads.{is_well_formed}
use Rattle.core_expr.specs.Put.{inst}
use Rattle.core_expr.specs.Coding.{tree_of-rows_of}
use Rattle.core_expr.proofs.FlatLaws.{inst_rows, rows_made, ok_same}
use Rattle.core_expr.proofs.Formed.{formed-inst}
use Rattle.core_expr.proofs.expr.Expr.inst.Goals as goal

made : (c : goal.In_ok-rows) → (rows_of (tree_of c.in_ok-rows.rows) ≡ c.in_ok-rows.rows) × ((is_well_formed (tree_of c.in_ok-rows.rows) ≡ true) × (tree_of c.in_ok-rows.rows ≡ inst c.args.self.now c.args.t.now))
made c =
    let o : c.in_ok-rows.rows ≡ rows_of (inst c.args.self.now c.args.t.now) =
    inst_rows c.args.t.now c.args.self.now c.as_slice-2.result.now c.as_slice.result.now c.in_ok-rows.rows c.requires.closed c.requires.one
    (c.as_slice-2.ensures ∙ sym c.t.invariant.0 ∙ ap rows_of c.t.view_is) (c.as_slice.ensures ∙ sym c.self.invariant.0 ∙ ap rows_of c.self.view_is) c.in_ok-rows.ensures
    in
    let w : is_well_formed (inst c.args.self.now c.args.t.now) ≡ true =
    formed-inst c.args.self.now c.args.t.now (ap is_well_formed (sym c.self.view_is) ∙ c.self.invariant.1) (ap is_well_formed (sym c.t.view_is) ∙ c.t.invariant.1)
    in
    rows_made (inst c.args.self.now c.args.t.now) c.in_ok-rows.rows o w

pub of_rows-requires-clause-whole : goal.of_rows-requires-clause-whole
of_rows-requires-clause-whole c = (made c).0

pub of_rows-requires-clause-formed : goal.of_rows-requires-clause-formed
of_rows-requires-clause-formed c = (made c).1.0

pub returns : goal.returns
returns c =
    let o : c.in_ok-rows.rows ≡ rows_of (inst c.args.self.now c.args.t.now) =
    inst_rows c.args.t.now c.args.self.now c.as_slice-2.result.now c.as_slice.result.now c.in_ok-rows.rows c.requires.closed c.requires.one
    (c.as_slice-2.ensures ∙ sym c.t.invariant.0 ∙ ap rows_of c.t.view_is) (c.as_slice.ensures ∙ sym c.self.invariant.0 ∙ ap rows_of c.self.view_is) c.in_ok-rows.ensures
    in
    ok_same c.of_rows.result (tree_of c.in_ok-rows.rows) (inst c.args.self.now c.args.t.now) (ap tree_of o ∙ tree_of-rows_of (inst c.args.self.now c.args.t.now)) c.of_rows.ensures
