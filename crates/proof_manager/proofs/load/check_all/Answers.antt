use Rattle.std.proofs.Common.{ap, refl, map}
use Rattle.tla_ast.specs.declared.unit.Loaded.{Loaded}
use Rattle.plain_syntax.specs.Syntax.{module_of}
use Rattle.proof_manager.proofs.Readings.{reading-stops, reading-ends}
use Rattle.proof_manager.proofs.load.check_all.Goals as goal

pub returns-in_err-scoped-clause-told : goal.returns-in_err-scoped-clause-told
returns-in_err-scoped-clause-told c = reading-stops (map module_of c.args.loaded.modules) c.from_residual.result c.in_err-scoped.field-0.0 c.from_residual.ensures.1 c.in_err-scoped.ensures.value

pub returns-clause-told : goal.returns-clause-told
returns-clause-told c =
    reading-ends (map module_of c.args.loaded.modules) c.in_ok-scoped.scoped (record { loaded = c.check.new.loaded; scoped = c.in_ok-scoped.scoped; chapters = c.in_ok-chapters.chapters }) c.in_ok-scoped.ensures.value
    (ap (λ (l : Loaded). map module_of l.modules) c.in_ok-scoped.ensures.same) refl
