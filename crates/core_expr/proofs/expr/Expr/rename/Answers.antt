use Rattle.std.proofs.Common.{◌≡◌, ◌∙◌, ap, true}
use Rattle.core_expr.specs.Flat.{rows_of, tree_of}
use Rattle.core_expr.specs.Heads.{is_well_formed}
use Rattle.core_expr.specs.Put.{sub}
use Rattle.core_expr.specs.Rename.{named}
use Rattle.core_expr.specs.Coding.{tree_of-rows_of}
use Rattle.core_expr.proofs.FlatLaws.{rows_made, ok_same}
use Rattle.core_expr.proofs.RenameLaws.{renamed_rows, formed-sub, formed-named}
use Rattle.core_expr.proofs.expr.Expr.rename.Goals as goal

rows : (c : goal.After-from_vec) → c.from_vec.result ≡ rows_of (sub (named c.args.by.now) c.args.self.now)
rows c = renamed_rows (named c.args.by.now) c.args.self.now c.rows.result.now c.from_vec.result c.rows.ensures (c.from_vec.ensures ∙ c.in_ok-rows.ensures)

made : (c : goal.After-from_vec) → (rows_of (tree_of c.from_vec.result) ≡ c.from_vec.result) × ((is_well_formed (tree_of c.from_vec.result) ≡ true) × (tree_of c.from_vec.result ≡ sub (named c.args.by.now) c.args.self.now))
made c =
    rows_made (sub (named c.args.by.now) c.args.self.now) c.from_vec.result (rows c)
    (formed-sub (named c.args.by.now) (formed-named c.args.by.now c.all_formed.ensures) c.args.self.now c.length.ensures.formed)

pub of_rows-requires-clause-whole : goal.of_rows-requires-clause-whole
of_rows-requires-clause-whole c = (made c).0

pub of_rows-requires-clause-formed : goal.of_rows-requires-clause-formed
of_rows-requires-clause-formed c = (made c).1.0

pub returns : goal.returns
returns c =
    ok_same c.of_rows.result (tree_of c.from_vec.result) (sub (named c.args.by.now) c.args.self.now)
    (ap tree_of (renamed_rows (named c.args.by.now) c.args.self.now c.rows.result.now c.from_vec.result c.rows.ensures (c.from_vec.ensures ∙ c.in_ok-rows.ensures)) ∙ tree_of-rows_of (sub (named c.args.by.now) c.args.self.now))
    c.of_rows.ensures
