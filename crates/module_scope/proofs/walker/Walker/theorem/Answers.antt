use Rattle.std.proofs.Common.{sym, ap, ◌∙◌}
use Rattle.plain_syntax.specs.Syntax.{statement_of, proof_of}
use Rattle.symbol_table.specs.declared.entry.EntrySort.TheVariants as sorts
use Rattle.module_scope.specs.Known.{book_of}
use Rattle.module_scope.specs.Names.{theorem, stated, proof_names, inside, fact_name, ◌>>◌}
use Rattle.module_scope.proofs.Visits.{because}
use Rattle.module_scope.proofs.Steps.{inside-is}
use Rattle.module_scope.proofs.walker.Walker.theorem.Goals as goal

pub returns : goal.returns
unfolding theorem
returns c =
    let sub = proof_names (proof_of c.args.proof.now) in
    let f = stated (statement_of c.args.statement.now) >> sub in
    let all = inside-is f (book_of c.fresh_name.new.self) (book_of c.proof.new.self) (book_of c.leave.new.self) c.mark-mark.result c.mark-mark.ensures
    (c.in_ok-proof.ensures ∙ ap sub c.in_ok-statement.ensures) c.leave.ensures in
    because _ _ _ _ (ap (fact_name sorts.Theorem c.args.name.now) (sym (all ∙ ap (inside f) c.in_ok-fresh_name.ensures))) c.fact_name.ensures
