use Rattle.std.proofs.Common.{sym, ap, ◌∙◌}
use Rattle.tla_ast.specs.declared.fault.ScopeFault.TheVariants as fault
use Rattle.plain_syntax.specs.Syntax.{module_of}
use Rattle.expression_level.specs.Store.{levels_of}
use Rattle.module_scope.specs.Known.{book_of, exports_of}
use Rattle.module_scope.specs.Resolution.{least}
use Rattle.module_scope.proofs.Turns.{refused-is}
use Rattle.module_scope.proofs.walker.Walker.finish.Goals as goal

pub returns-in-Some-clause-refused : goal.returns-in-Some-clause-refused
returns-in-Some-clause-refused c =
    let w = c.walk.new.self in
    refused-is (exports_of c.args.exports.now) (module_of c.args.module.now) (book_of c.args.self.now) w.scope w.entries.items (levels_of w.levels) w.symbols w.faults.items c.in_ok-walk.ensures
    (c.in-Some.place, c.in-Some.kind) (fault.At c.in_ok-module.module c.in-Some.place c.in-Some.kind)
    (sym c.in-Some.is ∙ c.least.ensures ∙ ap (λ v. least v.items) c.replace-faults.ensures.value)
    (ap (λ n. fault.At n c.in-Some.place c.in-Some.kind) (c.in_ok-module.ensures ∙ c.bytes.ensures))
