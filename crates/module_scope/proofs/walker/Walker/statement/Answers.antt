use Rattle.std.proofs.Common.{map, sym, ap, ◌∙◌}
use Rattle.plain_syntax.specs.Syntax.{term_of, item_of}
use Rattle.module_scope.specs.Known.{book_of}
use Rattle.module_scope.specs.Names.{each, item_names, stated, alone}
use Rattle.module_scope.proofs.Visits.{because}
use Rattle.module_scope.proofs.walker.Walker.statement.Goals as goal

pub returns : goal.returns
unfolding stated
returns c =
    because _ _ _ _ (ap (alone (term_of c.args.statement.now.goal)) (sym (c.in_ok-items.ensures ∙ ap (λ l. each item_names (map item_of l) (book_of c.args.self.now)) c.as_slice.ensures))) c.alone.ensures
