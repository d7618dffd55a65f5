use Rattle.std.proofs.Common.{sym, ap, ◌∙◌}
use Rattle.plain_syntax.specs.Syntax.{term_of}
use Rattle.symbol_table.specs.declared.entry.EntrySort.TheVariants as sorts
use Rattle.module_scope.specs.Names.{assumption, assumed, alone, fact_name}
use Rattle.module_scope.proofs.Visits.{because}
use Rattle.module_scope.proofs.walker.Walker.assumption.Goals as goal

pub returns : goal.returns
unfolding assumption
returns c =
    let t = term_of c.args.node.now in
    because _ _ _ _
    (ap (fact_name sorts.Assume c.args.name.now) (sym (c.in_ok-assumed.ensures ∙ ap (assumed c.args.place t) (c.in_ok-alone.ensures ∙ ap (alone t) c.in_ok-fresh_name.ensures)))) c.fact_name.ensures
