use Rattle.std.proofs.Common.{◌≡◌, ◌∙◌, ap, true}
use Rattle.core_expr.specs.Flat.{rows_of, tree_of}
use Rattle.core_expr.specs.Heads.{is_well_formed}
use Rattle.core_expr.specs.Put.{shift}
use Rattle.core_expr.specs.Coding.{tree_of-rows_of}
use Rattle.core_expr.proofs.FlatLaws.{rows_made, ok_same}
use Rattle.core_expr.proofs.Formed.{formed-shift}
use Rattle.core_expr.proofs.LiftLaws.{shifted_rows}
use Rattle.core_expr.proofs.expr.Expr.lift.Goals as goal

made : (c : goal.After-from_vec) → (rows_of (tree_of c.from_vec.result) ≡ c.from_vec.result) × ((is_well_formed (tree_of c.from_vec.result) ≡ true) × (tree_of c.from_vec.result ≡ shift 0 c.args.by c.args.self.now))
made c =
    rows_made (shift 0 c.args.by c.args.self.now) c.from_vec.result
    (shifted_rows c.args.by c.args.self.now c.rows.result.now c.new-rows.result.items c.from_vec.result c.rows.ensures c.new-rows.ensures.items (c.from_vec.ensures ∙ c.in_ok-lift.ensures))
    (formed-shift 0 c.args.by c.args.self.now ∙ c.length.ensures.formed)

pub of_rows-requires-clause-whole : goal.of_rows-requires-clause-whole
of_rows-requires-clause-whole c = (made c).0

pub of_rows-requires-clause-formed : goal.of_rows-requires-clause-formed
of_rows-requires-clause-formed c = (made c).1.0

pub returns : goal.returns
returns c =
    ok_same c.of_rows.result (tree_of c.from_vec.result) (shift 0 c.args.by c.args.self.now)
    (ap tree_of (shifted_rows c.args.by c.args.self.now c.rows.result.now c.new-rows.result.items c.from_vec.result c.rows.ensures c.new-rows.ensures.items (c.from_vec.ensures ∙ c.in_ok-lift.ensures)) ∙ tree_of-rows_of (shift 0 c.args.by c.args.self.now))
    c.of_rows.ensures
