use Rattle.std.proofs.Common.{refl, ap, ◌∙◌, ◌++◌, ◌∷◌, [], length}
use Rattle.tla_ast.specs.declared.tree.Def.{out-Def}
use Rattle.plain_syntax.specs.Syntax.{term_of}
use Rattle.expression_level.specs.Store.{levels_of, flags_of}
use Rattle.expression_level.specs.Primed.{primed_parameters}
use Rattle.symbol_table.specs.Symbols.{symbol_at}
use Rattle.module_scope.specs.Known.{book_of}
use Rattle.module_scope.specs.Names.{defined}
use Rattle.module_scope.proofs.Defining.{defined-is}
use Rattle.module_scope.proofs.walker.Walker.define.Goals as goal

pub returns : goal.returns
returns c =
    let w = c.args.self.now in
    let d = out-Def c.args.def.now in
    defined-is w.scope c.enter.new.self w.entries.items c.push.new.self.items (levels_of w.levels) (levels_of c.define.new.self) w.symbols c.note.new.self w.faults.items d.name c.in_ok-text.text
    c.as_slice-params.result.now (term_of c.get-body.result.now) d.place c.len-number.result (length c.as_slice-params.result.now) c.in_ok-found.found.level c.in_ok-found.found.primed
    (c.len-number.ensures ∙ w.entries.ok.0) (c.in_ok-text.ensures ∙ c.bytes.ensures) refl
    (c.in_ok-found.ensures.primed
    ∙ ap (λ l. primed_parameters (symbol_at w.symbols) (flags_of l) c.as_slice-params.result.now (term_of c.get-body.result.now)) c.as_slice.ensures.value) c.in_ok-found.ensures.level c.in_ok-found.ensures.defined c.in_ok-push.ensures.items (c.in_ok-enter.ensures.entered ∙ ap (λ x. w.scope ++ (x, c.len-number.result) ∷ []) c.bytes-2.ensures) c.in_ok-note.ensures.noted
    ∙ (λ i. defined d.name (c.as_slice-params.ensures i) (term_of (c.get-body.ensures i)) d.place (book_of w))
