use Rattle.std.proofs.Common.{ap, sym, ◌∙◌, get_or}
use Rattle.symbol_table.specs.Symbols.{symbol_at}
use Rattle.expression_level.specs.Weights.Known.{arguments}
use Rattle.expression_level.proofs.Locals.{at-local, at-declared, get-found}
use Rattle.expression_level.proofs.names.Names.at.Goals as goal

pub returns-in-Some : goal.returns-in-Some
returns-in-Some c =
    at-local c.args.self.now c.at.result c.args.place c.in_ok-number.number c.in-Some.known.now (sym c.in_ok-number.was)
    (c.at.ensures ∙ ap (λ s. symbol_at s.symbols c.args.place) c.self.view_is) c.in-Some.ensures

pub returns-in-None : goal.returns-in-None
returns-in-None c =
    get-found c.get.result c.self.inside.declared.now c.in_ok-number.number c.get.ensures.lookup.0 c.get.ensures.lookup.1
    ∙ ap (λ s. get_or s.env.declared c.in_ok-number.number arguments) c.self.view_is
    ∙ at-declared c.args.self.now c.at.result c.args.place c.in_ok-number.number (sym c.in_ok-number.was)
    (c.at.ensures ∙ ap (λ s. symbol_at s.symbols c.args.place) c.self.view_is) c.in-None.ensures
