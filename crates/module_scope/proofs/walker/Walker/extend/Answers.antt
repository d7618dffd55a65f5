use Rattle.std.proofs.Common.{if◌then◌else◌, map, sym, ap, ◌∙◌}
use Rattle.module_scope.specs.Scope.{seen}
use Rattle.module_scope.specs.Known.{book_of, exports_of}
use Rattle.module_scope.specs.Resolution.{extend, bring, library_scope, exported}
use Rattle.module_scope.proofs.Visits.{because}
use Rattle.module_scope.proofs.walker.Walker.extend.Goals as goal

pub returns-then-is_library : goal.returns-then-is_library
unfolding extend
returns-then-is_library c =
    let es = exports_of c.args.exports.now in
    let w = c.args.name.now in
    let b = book_of c.args.self.now in
    because _ _ _ _
    (ap (λ x. bring (if x then library_scope w else exported es w) c.args.place b) (sym c.is_library.ensures ∙ c.if-is_library.true)
    ∙ ap (λ s. bring s c.args.place b) (sym (ap (map seen) c.as_slice.ensures.value ∙ c.in_ok-names.ensures))) c.bring.ensures

pub returns : goal.returns
unfolding extend
returns c =
    let es = exports_of c.args.exports.now in
    let w = c.args.name.now in
    let b = book_of c.args.self.now in
    because _ _ _ _
    (ap (λ x. bring (if x then library_scope w else exported es w) c.args.place b) (sym c.is_library.ensures ∙ c.if-is_library.false)
    ∙ ap (λ s. bring s c.args.place b) (sym c.exported.ensures)) c.bring-2.ensures
