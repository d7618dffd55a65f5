use Rattle.std.proofs.Common.{sym, ap, ◌∙◌}
use Rattle.plain_syntax.specs.Syntax.{term_of}
use Rattle.module_scope.specs.Known.{book_of}
use Rattle.module_scope.specs.Names.{cited, cited_as, stands}
use Rattle.module_scope.proofs.Visits.{because}
use Rattle.module_scope.proofs.Cited.{placed}
use Rattle.module_scope.proofs.walker.Walker.cite.Goals as goal

pub returns-in-Some : goal.returns-in-Some
unfolding cited
returns-in-Some c =
    let b = book_of c.args.self.now in
    let t = term_of c.args.node.now in
    because _ _ _ _ (ap (λ o. cited_as o t b) (sym c.named_fact.ensures ∙ c.in-Some.is) ∙ ap (λ p. stands c.in-Some.number p b) (placed c.args.node.now)) c.note.ensures

pub returns-in-None : goal.returns-in-None
unfolding cited
returns-in-None c = because _ _ _ _ (ap (λ o. cited_as o (term_of c.args.node.now) (book_of c.args.self.now)) (sym c.named_fact.ensures ∙ c.in-None.is)) c.alone.ensures
