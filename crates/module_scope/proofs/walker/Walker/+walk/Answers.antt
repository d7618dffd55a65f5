use Rattle.std.proofs.Common.{◌≡◌, ◌≤◌, ◌<◌, ◌+◌, [], ◌∷◌, map, drop, fold, length, slice_index_or, sym, ap, subst, ◌∙◌, arith}
use Rattle.std.proofs.lemmas.List.{length-drop}
use Rattle.tla_ast.specs.declared.tree.Node.{out-Node, size-Node}
use Rattle.tla_ast.specs.declared.tree.Def.{out-Def}
use Rattle.tla_ast.specs.declared.tree.Form.TheVariants as form
use Rattle.plain_syntax.specs.Plain.{Keys}
use Rattle.plain_syntax.specs.Plain.Keys.{end_keys}
use Rattle.plain_syntax.proofs.Forms.{is-key, is-field-key}
use Rattle.plain_syntax.specs.Syntax.{term_of, terms_of, keys_of}
use Rattle.symbol_table.specs.declared.entry.EntrySort.TheVariants as sorts
use Rattle.module_scope.specs.Known.{book_of}
use Rattle.module_scope.specs.Names.{each, inside, ◌>>◌, declare_name, fresh, defined, names, key_names, field_names}
use Rattle.module_scope.proofs.Steps.{next, all-past, inside-is, folded, update-step, updates-end, updates-over, except-start, except-none, field-step}
use Rattle.module_scope.specs.Visits.{visited, set_group, bind_group, define_step, key_step}
use Rattle.module_scope.proofs.Visits.{because, in-order, fields-end, visits-prefix, visits-infix, visits-prime, visits-index, visits-field, visits-name, visits-call, visits-filter, visits-image, visits-function, visits-record, visits-record-set, visits-except, visits-quant, visits-choose, visits-let, visits-other}
use Rattle.module_scope.proofs.walker.Walker.+walk.Goals as goal

pub visit-returns-in-Prefix : goal.visit-returns-in-Prefix
visit-returns-in-Prefix t c = because _ _ _ _ (visits-prefix c.args.node.now (book_of c.args.self.now) _ (c.in-Prefix.is ∙ ap form.Prefix (sym c.bytes.ensures))) c.prefix.ensures

pub visit-returns-in-Infix : goal.visit-returns-in-Infix
visit-returns-in-Infix t c = because _ _ _ _ (visits-infix c.args.node.now (book_of c.args.self.now) _ (c.in-Infix.is ∙ ap form.Infix (sym c.bytes-in-Infix.ensures))) c.infix.ensures

pub visit-returns-in-Prime : goal.visit-returns-in-Prime
visit-returns-in-Prime t c = sym (visits-prime c.args.node.now (book_of c.args.self.now) c.in-Prime.is)

pub visit-returns-in-Index : goal.visit-returns-in-Index
visit-returns-in-Index t c = sym (visits-index c.args.node.now (book_of c.args.self.now) c.in-Index.is)

pub visit-returns-in-Field : goal.visit-returns-in-Field
visit-returns-in-Field t c = sym (visits-field c.args.node.now (book_of c.args.self.now) _ c.in-Field.is)

pub visit-returns-in-Name : goal.visit-returns-in-Name
visit-returns-in-Name t c =
    because _ _ _ _ (visits-name c.args.node.now (book_of c.args.self.now) _ (c.in-Name.is ∙ ap form.Name (sym c.bytes-in-Name.ensures))) c.application.ensures

pub visit-returns-in-Call : goal.visit-returns-in-Call
visit-returns-in-Call t c =
    because _ _ _ _ (visits-call c.args.node.now (book_of c.args.self.now) _ (c.in-Call.is ∙ ap form.Call (sym c.bytes-in-Call.ensures))) c.application-in-Call.ensures

pub visit-returns-in-Filter : goal.visit-returns-in-Filter
visit-returns-in-Filter t c =
    because _ _ _ _ (visits-filter c.args.node.now (book_of c.args.self.now) _ (c.in-Filter.is ∙ ap form.Filter (sym c.bytes-in-Filter.ensures))) c.binder.ensures

pub visit-returns-in-Image : goal.visit-returns-in-Image
visit-returns-in-Image t c =
    because _ _ _ _ (visits-image c.args.node.now (book_of c.args.self.now) _ (c.in-Image.is ∙ ap form.Image (sym c.bytes-in-Image.ensures))) c.binder-in-Image.ensures

pub visit-returns-in-Function : goal.visit-returns-in-Function
visit-returns-in-Function t c =
    because _ _ _ _ (visits-function c.args.node.now (book_of c.args.self.now) _ (c.in-Function.is ∙ ap form.Function (sym c.bytes-in-Function.ensures))) c.binder-in-Function.ensures

pub visit-returns-in-Record : goal.visit-returns-in-Record
visit-returns-in-Record t c = because _ _ _ _ (visits-record c.args.node.now (book_of c.args.self.now) _ c.in-Record.is) c.fields.ensures

pub visit-returns-in-RecordSet : goal.visit-returns-in-RecordSet
visit-returns-in-RecordSet t c = because _ _ _ _ (visits-record-set c.args.node.now (book_of c.args.self.now) _ c.in-RecordSet.is) c.fields-in-RecordSet.ensures

pub visit-returns-in-Except : goal.visit-returns-in-Except
visit-returns-in-Except t c = c.except.ensures (_, c.in-Except.is)

pub visit-returns-in_ok-bind_groups-in-Quant : goal.visit-returns-in_ok-bind_groups-in-Quant
visit-returns-in_ok-bind_groups-in-Quant t c =
    let sets = sym (c.in_ok-domains-in-Quant.ensures ∙ ap (fold set_group (book_of c.args.self.now)) c.as_slice.ensures) in
    let binds = sym (c.in_ok-bind_groups-in-Quant.ensures ∙ ap (fold (bind_group sorts.Bound) (book_of c.domains.new.self)) c.as_slice-in-Quant.ensures) in
    because _ _ _ _ (visits-quant c.args.node.now (book_of c.args.self.now) _ _ c.in-Quant.is) (rw (sets, binds, sym c.mark-mark.ensures) c.inside.ensures)

pub visit-returns-in_ok-bind_group-in-Choose : goal.visit-returns-in_ok-bind_group-in-Choose
visit-returns-in_ok-bind_group-in-Choose t c =
    let sets = sym c.in_ok-domain-in-Choose.ensures in
    let binds = sym c.in_ok-bind_group-in-Choose.ensures in
    because _ _ _ _ (visits-choose c.args.node.now (book_of c.args.self.now) _ c.in-Choose.is) (rw (sets, binds, sym c.mark-mark-in-Choose.ensures) c.inside-in-Choose.ensures)

pub visit-returns-in_ok-definitions-in-Let : goal.visit-returns-in_ok-definitions-in-Let
visit-returns-in_ok-definitions-in-Let t c =
    let defines = sym (c.in_ok-definitions-in-Let.ensures ∙ ap (fold define_step (book_of c.args.self.now)) c.as_slice-in-Let.ensures) in
    because _ _ _ _ (visits-let c.args.node.now (book_of c.args.self.now) _ c.in-Let.is) (rw (defines, sym c.mark-mark-in-Let.ensures) c.inside-in-Let.ensures)

pub visit-returns-in_default : goal.visit-returns-in_default
visit-returns-in_default t c =
    let d = c.in_default in
    because _ _ _ _
    (visits-other c.args.node.now (book_of c.args.self.now)
    (d.not-Prefix, d.not-Infix, d.not-Prime, d.not-Index, d.not-Field, d.not-Name, d.not-Call, d.not-Filter, d.not-Image, d.not-Function, d.not-Record, d.not-RecordSet, d.not-Except, d.not-Quant, d.not-Choose, d.not-Let))
    (rw (sym c.as_slice-in_default.ensures) c.all.ensures)

pub definition-returns : goal.definition-returns
definition-returns t c =
    let d = out-Def c.args.def.now in
    let b = book_of c.args.self.now in
    let f = each (declare_name sorts.Bound 0) d.params >> names (term_of d.body) in
    let bound = c.in_ok-bind_all.ensures ∙ ap (λ l. each (declare_name sorts.Bound 0) l (book_of c.fresh.new.self)) c.as_slice.ensures in
    let walked = c.in_ok-expression.ensures ∙ ap (λ n. names (term_of n) (book_of c.bind_all.new.self)) c.get.ensures ∙ ap (names (term_of d.body)) bound in
    let all = inside-is f (book_of c.fresh.new.self) (book_of c.expression.new.self) (book_of c.leave.new.self) c.mark-mark.result c.mark-mark.ensures walked c.leave.ensures in
    let start = c.in_ok-fresh.ensures ∙ ap (λ w. fresh w d.place b) c.bytes.ensures in
    because _ _ _ _ (ap (defined d.name d.params (term_of d.body) d.place) (sym (all ∙ ap (inside f) start))) c.define.ensures

pub definitions-loop-def-preserved : goal.definitions-loop-def-preserved
definitions-loop-def-preserved t c =
    folded define_step _ (book_of c.loop-def.self) (book_of c.definition.new.self) _ _ c.def-item.result c.loop-def.invariant
    (next c.args.defs.now c.loop-def.def-index (c.loop-def.def-index + 1) c.def-item.result (omega arith) c.loop-def-test.true c.def-item.is) c.in_ok-definition.ensures

pub except-returns-in_default : goal.except-returns-in_default
except-returns-in_default t c = λ h. absurd (c.in_default.not-Except h.0 h.1)

pub except-returns-in_default-split_first : goal.except-returns-in_default-split_first
except-returns-in_default-split_first t c = λ h.
    let none = c.in_default-split_first.ensures.cases in
    except-none (map keys_of c.in-Except.paths) (out-Node c.args.node.now).parts (book_of c.args.self.now) (sym (ap length c.as_slice.ensures) ∙ none)
    ∙ sym (visits-except c.args.node.now (book_of c.args.self.now) c.in-Except.paths c.in-Except.is)

pub except-returns-then-at-paths : goal.except-returns-then-at-paths
except-returns-then-at-paths t c = λ h.
    let ps = c.as_slice-paths.result.now in
    let over = updates-over (drop c.loop-at.at ps) (drop c.loop-at.at c.in-Some.values.now) _ (book_of c.loop-at.self) c.loop-at.invariant (all-past ps c.loop-at.at c.if-at-paths.true) in
    except-start (map keys_of ps) (out-Node c.args.node.now).parts c.in-Some.values.now c.in-Some.function.now (book_of c.args.self.now) (book_of c.expression.new.self) (book_of c.loop-at.self)
    (sym c.as_slice.ensures ∙ c.in-Some.ensures.cases.0) c.in_ok-expression.ensures over
    ∙ sym (visits-except c.args.node.now (book_of c.args.self.now) ps (c.in-Except.is ∙ ap form.Except (sym c.as_slice-paths.ensures)))

pub except-loop-at-preserved : goal.except-loop-at-preserved
except-loop-at-preserved t c =
    update-step _ _ _ _ c.index-paths-at.result c.index-values-at.result _ (book_of c.loop-at.self) (book_of c.keys.new.self) (book_of c.expression-in-loop-at.new.self) c.loop-at.invariant
    (next c.as_slice-paths.result.now c.loop-at.at (c.loop-at.at + 1) c.index-paths-at.result (omega arith) c.if-at-paths.false c.index-paths-at.is)
    (next c.in-Some.values.now c.loop-at.at (c.loop-at.at + 1) c.index-values-at.result (omega arith) c.loop-at-test.true c.index-values-at.is) c.in_ok-keys.ensures c.in_ok-expression-2.ensures

pub except-returns : goal.except-returns
except-returns t c = λ h.
    let ps = c.as_slice-paths.result.now in
    let vs = c.in-Some.values.now in
    let end = updates-end ps (drop c.loop-at.at ps) vs (drop c.loop-at.at vs) _ (book_of c.loop-at.self) c.loop-at.invariant (all-past vs c.loop-at.at c.loop-at-test.false) in
    except-start (map keys_of ps) (out-Node c.args.node.now).parts vs c.in-Some.function.now (book_of c.args.self.now) (book_of c.expression.new.self) (book_of c.loop-at.self)
    (sym c.as_slice.ensures ∙ c.in-Some.ensures.cases.0) c.in_ok-expression.ensures end
    ∙ sym (visits-except c.args.node.now (book_of c.args.self.now) ps (c.in-Except.is ∙ ap form.Except (sym c.as_slice-paths.ensures)))

pub expression-loop-node-init : goal.expression-loop-node-init
expression-loop-node-init t c =
    sym (in-order (term_of c.args.node.now) (book_of c.args.self.now))
    ∙ ap (fold visited (book_of c.args.self.now)) (sym c.in_ok-nodes.ensures.ordered ∙ ap (map (λ n. term_of n.now)) (sym c.as_slice-node-items.ensures.value))

pub expression-visit-requires : goal.expression-visit-requires
expression-visit-requires t c =
    let r = c.node-item.result in
    let is : r ≡ slice_index_or c.in_ok-nodes.nodes.items c.loop-node.node-index r = c.node-item.is ∙ ap (λ l. slice_index_or l c.loop-node.node-index r) c.as_slice-node-items.ensures.value in
    let within : c.loop-node.node-index < length c.in_ok-nodes.nodes.items = subst (λ l. c.loop-node.node-index < length l) c.as_slice-node-items.ensures.value c.loop-node-test.true in
    let h : size-Node r.now ≤ size-Node c.args.node.now = subst (λ x. size-Node x.now ≤ size-Node c.args.node.now) (sym is) (c.in_ok-nodes.ensures.no_deeper c.loop-node.node-index r within) in
    let d = c.decreases in (omega (arith, h, d), tt)

pub fields-returns-then-at-parts : goal.fields-returns-then-at-parts
fields-returns-then-at-parts t c =
    let few : length (drop c.loop-at.at c.as_slice-parts.result.now) ≤ 1 = let e = length-drop c.loop-at.at c.as_slice-parts.result.now in let l = c.if-at-parts.true in omega (arith, e, l) in
    sym (ap (λ l. field_names [] (terms_of (map term_of l)) (book_of c.args.self.now)) (sym c.as_slice-parts.ensures) ∙ c.loop-at.invariant ∙ fields-end _ (drop c.loop-at.at c.as_slice-parts.result.now) _ few)

pub fields-loop-at-preserved : goal.fields-loop-at-preserved
fields-loop-at-preserved t c =
    let ns = c.as_slice-parts.result.now in
    let at = c.loop-at.at in
    let more : at + 1 < length ns = let l = c.if-at-parts.false in let k = c.loop-at-test.true in omega (arith, l, k) in
    let first = next ns at (at + 1) c.index-parts-at.result (omega arith) c.loop-at-test.true c.index-parts-at.is in
    let second = next ns (at + 1) (at + 2) c.index-parts-at-in-loop-at.result (omega arith) more c.index-parts-at-in-loop-at.is in
    field-step _ _ c.index-parts-at.result c.index-parts-at-in-loop-at.result _ _ _ (book_of c.loop-at.self) (book_of c.field.new.self) (book_of c.expression.new.self) c.loop-at.invariant
    (first ∙ ap (λ l. c.index-parts-at.result ∷ l) second) c.in_ok-field.ensures.fields c.in_ok-field.ensures.names c.in_ok-expression.ensures

pub key-returns-in-At : goal.key-returns-in-At
key-returns-in-At t c =
    because _ _ _ _ (ap (key_step (book_of c.args.self.now)) c.in-At.is ∙ ap (λ (f : Keys → Keys). key_names (f end_keys) (book_of c.args.self.now)) (is-key c.in-At.node)) c.expression.ensures

pub key-returns-in-Field : goal.key-returns-in-Field
key-returns-in-Field t c =
    sym (ap (key_step (book_of c.args.self.now)) c.in-Field.is ∙ ap (λ (f : Keys → Keys). key_names (f end_keys) (book_of c.args.self.now)) (is-field-key _))
