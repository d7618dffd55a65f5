use Rattle.std.proofs.Common.{sym, ◌∙◌, arith}
use Rattle.core_expr.proofs.RenameLaws.{applied_last, applied_more}
use Rattle.core_expr.proofs.rename.last_symbol.Goals as goal

pub returns-then-at-rows : goal.returns-then-at-rows
returns-then-at-rows c = c.root_symbol.ensures ∙ applied_last c.args.parts c.args.rows.now c.args.at c.index-rows-at.result c.requires c.index-rows-at.is c.if-at-rows.true

pub returns-else-at-rows : goal.returns-else-at-rows
returns-else-at-rows c = let f = c.if-at-rows.false in let h = c.requires in sym (applied_more c.args.parts c.args.rows.now c.args.at (omega (arith, f, h)))
