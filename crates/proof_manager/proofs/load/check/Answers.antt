use Rattle.std.proofs.Common.{◌≡◌, ap, sym, subst, map, ◌∙◌}
use Rattle.std.specs.Prelude.{Some, Err}
use Rattle.plain_syntax.specs.Syntax.{module_of}
use Rattle.module_scope.specs.Resolution.{resolution}
use Rattle.symbol_table.specs.Scoped.{Table}
use Rattle.proof_manager.specs.Reading.{and_then}
use Rattle.proof_manager.specs.Reading.{modules_fault, checked}
use Rattle.proof_manager.specs.Causes.{Answers}
use Rattle.proof_manager.proofs.Readings.{names-stop, answers-fault, map-take, first-fault}
use Rattle.proof_manager.proofs.load.check.Goals as goal

pub returns-in_err-resolve-clause-value : goal.returns-in_err-resolve-clause-value
returns-in_err-resolve-clause-value c =
    let ms = map module_of c.args.loaded.now.modules in
    let front = map module_of c.keep_first.new.loaded.modules in
    let found : modules_fault ms ≡ Some (c.in-Some.count, c.in-Some.fault) = ap (λ xs. modules_fault (map module_of xs)) (sym c.as_slice.ensures) ∙ sym c.in_ok-count.ensures ∙ c.in-Some.is in
    subst (λ d. Answers {T = Table} (λ s. s) c.from_residual-in_err-resolve.result d)
    (sym (first-fault ms front c.in-Some.count c.in-Some.fault found (ap (map module_of) c.keep_first.ensures ∙ map-take module_of c.in-Some.count c.args.loaded.now.modules)))
    (names-stop (λ s. s) c.from_residual-in_err-resolve.result c.in_err-resolve.field-0.0 (resolution front) (λ t. Err c.in-Some.fault) c.from_residual-in_err-resolve.ensures.1 c.in_err-resolve.ensures)

pub returns-clause-value : goal.returns-clause-value
returns-clause-value c =
    let ms = map module_of c.args.loaded.now.modules in
    let front = map module_of c.keep_first.new.loaded.modules in
    let found : modules_fault ms ≡ Some (c.in-Some.count, c.in-Some.fault) = ap (λ xs. modules_fault (map module_of xs)) (sym c.as_slice.ensures) ∙ sym c.in_ok-count.ensures ∙ c.in-Some.is in
    answers-fault {T = Table} (λ s. s) c.in-Some.fault (checked ms)
    (first-fault ms front c.in-Some.count c.in-Some.fault found (ap (map module_of) c.keep_first.ensures ∙ map-take module_of c.in-Some.count c.args.loaded.now.modules)
    ∙ ap (λ r. and_then r (λ t. Err c.in-Some.fault)) c.in_ok-resolve.ensures)
