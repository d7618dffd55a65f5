use Rattle.std.proofs.Common.{[], map, refl, sym, subst, ◌∙◌}
use Rattle.plain_syntax.specs.Syntax.{unit_of, module_of}
use Rattle.proof_contexts.specs.Expansion.{has_number}
use Rattle.known_facts.specs.Clean.{definitions_of}
use Rattle.symbol_table.specs.Scoped.{symbol}
use Rattle.usable_facts.specs.Theorems.{reaches, brought}
use Rattle.theorem_leaves.specs.declared.units.Reading.{Reading}
use Rattle.theorem_leaves.specs.declared.modules.Done.{Done}
use Rattle.theorem_leaves.specs.declared.modules.Modules.{Modules}
use Rattle.theorem_leaves.specs.declared.chapter.Chapter.{Chapter}
use Rattle.theorem_leaves.specs.Passing.{At, IsAt, AreDone, HasNames, pass_units}
use Rattle.theorem_leaves.proofs.Reading.{start-at, module-passed}
use Rattle.theorem_leaves.proofs.modules.Whole.module.Goals as goal

pub returns : goal.returns
returns c = λ a passed.
    let w = c.args.self.now in let old = c.args.modules.now in let x = c.args.«module».now in let m = c.args.number in
    let table = definitions_of w.table.now in let is = has_number w.theorems.now.keys in
    let ws = reaches a.done x.extends in
    let names = c.in_ok-names.names in
    let reached : HasNames names ws =
    subst (λ es. HasNames names (reaches a.done es)) c.as_slice-2.ensures (c.in_ok-names.ensures a.done (subst (λ l. AreDone l a.done) (sym c.as_slice.ensures.value) passed.done)) in
    let base = c.in_ok-bring.ensures a.done ws (subst (λ l. AreDone l a.done) (sym c.as_slice-3.ensures.value) passed.done) (subst (λ l. HasNames l ws) (sym c.as_slice-4.ensures) reached) in
    let begun : At = record { front = brought a.done ws; adds = []; before = a.before; theorems = [] } in
    let before : Reading = record { context = c.in_ok-bring.field-0; adds = c.new.result; before = old.before; theorems = c.new-2.result } in
    let at = subst (λ us. IsAt c.units.new.reading (pass_units table is w.scoped.now.entries (symbol w.scoped.now m) (map unit_of us) begun)) c.as_slice-5.ensures
    (c.in_ok-units.ensures begun (start-at before (brought a.done ws) a.before base c.new.ensures passed.before c.new-2.ensures)) in
    let d : Done = record { name = c.in_ok-of.field-0; reaches = names; adds = c.units.new.reading.adds } in
    let h : Chapter = record { name = c.in_ok-of-2.field-0; theorems = c.units.new.reading.theorems } in
    let new : Modules = record { done = c.push.new.self; before = c.units.new.reading.before; chapters = c.push-2.new.self } in
    module-passed table is w.scoped.now m (module_of x) a old new c.units.new.reading names d h reached at
    (c.in_ok-of.ensures ∙ c.bytes.ensures) refl refl (c.in_ok-of-2.ensures ∙ c.bytes-2.ensures) refl
    c.in_ok-push.ensures.items refl c.in_ok-push-2.ensures.ok passed
