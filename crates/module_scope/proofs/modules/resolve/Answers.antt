use Rattle.std.proofs.Common.{◌+◌, ◌++◌, [], ◌∷◌, map, drop, sym, ap, ◌∙◌, arith}
use Rattle.plain_syntax.specs.Syntax.{module_of}
use Rattle.module_scope.specs.Known.{book_of, exports_of, export_of}
use Rattle.module_scope.specs.Resolution.{resolution, resolved}
use Rattle.module_scope.proofs.Steps.{next}
use Rattle.module_scope.proofs.Turns.{module-done, module-refused, err-answers}
use Rattle.module_scope.proofs.modules.resolve.Goals as goal

pub loop-module-init : goal.loop-module-init
unfolding resolution
loop-module-init c =
    λ i. resolved (exports_of (sym c.new-exports.ensures.items i)) (sym c.new-symbols.ensures i) (map module_of (sym c.as_slice-module-items.ensures i)) (sym c.in_ok-walker.ensures i)

pub returns-in_err-export : goal.returns-in_err-export
returns-in_err-export c =
    let l = c.loop-module in
    let rest = next c.as_slice-module-items.result.now l.module-index (l.module-index + 1) c.module-item.result (omega arith) c.loop-module-test.true c.module-item.is in
    let so_far = l.invariant ∙ ap (λ ms. resolved (exports_of l.exports.items) l.symbols (map module_of ms) (book_of l.walker)) rest in
    let here = so_far ∙ ap (λ es. resolved (exports_of es) l.symbols (map module_of (c.module-item.result ∷ drop (l.module-index + 1) c.as_slice-module-items.result.now)) (book_of l.walker)) (sym c.as_slice.ensures.value) in
    err-answers c.from_residual-in_err-export.result c.in_err-export.field-0.0 _ c.from_residual-in_err-export.ensures.1
    (module-refused (exports_of c.as_slice.result.now) l.symbols (module_of c.module-item.result) (map module_of (drop (l.module-index + 1) c.as_slice-module-items.result.now)) (book_of l.walker) _ here
    c.in_err-export.field-0.0 c.in_err-export.ensures.refused)

pub loop-module-preserved : goal.loop-module-preserved
loop-module-preserved c =
    let l = c.loop-module in
    let behind = drop (l.module-index + 1) c.as_slice-module-items.result.now in
    let rest = next c.as_slice-module-items.result.now l.module-index (l.module-index + 1) c.module-item.result (omega arith) c.loop-module-test.true c.module-item.is in
    let so_far = l.invariant ∙ ap (λ ms. resolved (exports_of l.exports.items) l.symbols (map module_of ms) (book_of l.walker)) rest in
    let here = so_far ∙ ap (λ es. resolved (exports_of es) l.symbols (map module_of (c.module-item.result ∷ behind)) (book_of l.walker)) (sym c.as_slice.ensures.value) in
    let kept = ap (λ es. exports_of es ++ export_of c.in_ok-export.export ∷ []) c.as_slice.ensures.value ∙ sym c.in_ok-keep.ensures in
    module-done (exports_of c.as_slice.result.now) l.symbols (module_of c.module-item.result) (map module_of behind) (book_of l.walker) _ here
    (book_of c.finish.new.self) (export_of c.in_ok-export.export) c.in_ok-export.names c.in_ok-export.ensures.finished
    ∙ (λ i. resolved (kept i) (sym c.in_ok-push.ensures.ok i) (map module_of behind) (book_of c.finish.new.self))
