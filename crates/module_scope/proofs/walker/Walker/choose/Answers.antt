use Rattle.std.proofs.Common.{fold, sym, ap, ◌∙◌}
use Rattle.plain_syntax.specs.Syntax.{each_group}
use Rattle.symbol_table.specs.declared.entry.EntrySort.TheVariants as sorts
use Rattle.module_scope.specs.Known.{book_of}
use Rattle.module_scope.specs.Names.{chosen, group_sets}
use Rattle.module_scope.specs.Visits.{bind_group}
use Rattle.module_scope.proofs.Visits.{because, binds-all, choices-all}
use Rattle.module_scope.proofs.walker.Walker.choose.Goals as goal

pub returns : goal.returns
unfolding chosen
returns c =
    let gs = c.args.groups.now in
    let b = book_of c.args.self.now in
    because _ _ _ _ (binds-all sorts.Constant gs (group_sets (each_group gs) b) ∙ ap (λ x. fold (bind_group sorts.Constant) x gs) (choices-all gs b ∙ sym c.in_ok-group_sets.ensures)) c.bind_groups.ensures
