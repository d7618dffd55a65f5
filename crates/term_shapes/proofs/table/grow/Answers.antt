use Rattle.std.proofs.Common.{◌≡◌, ◌+◌, [], ◌∷◌, ◌++◌, rules, arith, drop, length, get_or, subst, sym, ap, append-nil}
use Rattle.std.proofs.lemmas.List.{length_push, drop_all}
use Rattle.core_expr.specs.Nodes.{picked}
use Rattle.term_bank.specs.Banks.{HasTree}
use Rattle.term_bank.proofs.InstLaws.{Extends-trans}
use Rattle.term_shapes.specs.declared.shape.Shape.TheVariants.{True}
use Rattle.term_shapes.specs.Shapes.{tree_of}
use Rattle.term_shapes.specs.Forms.{IsTable, grown}
use Rattle.term_shapes.proofs.FormLaws.{table_begins, table_next, table_form, table_step}
use Rattle.term_shapes.proofs.table.grow.Goals as goal

pub loop-form-init : goal.loop-form-init
loop-form-init c = record {
  table = rw (c.in_ok-places.ensures.items) (table_begins c.args.bank.now c.args.terms.now c.args.forms.now c.requires.terms c.requires.forms);
  extends = ([], sym (append-nil c.args.bank.now));
  distinct = c.count-count.ensures.distinct;
  some = omega arith;
}

pub add_form-requires-clause-form : goal.add_form-requires-clause-form
add_form-requires-clause-form c =
    let n = table_next c.loop-form.bank c.loop-form.places.items c.args.forms.now c.loop-form.form-index True (grown (picked c.args.bank.now c.args.terms.now) c.args.forms.now) c.loop-form-test.true c.loop-form.invariant.table in
    rw c.as_slice.ensures.value (table_form _ _ _ _ _ n)

pub loop-form-preserved : goal.loop-form-preserved
loop-form-preserved c =
    let b = c.loop-form.bank in
    let t = grown (picked c.args.bank.now c.args.terms.now) c.args.forms.now in
    let s = get_or c.args.forms.now c.loop-form.form-index True in
    let n = table_next b c.loop-form.places.items c.args.forms.now c.loop-form.form-index True t c.loop-form-test.true c.loop-form.invariant.table in
    let h : HasTree c.add_form.new.bank c.in_ok-place.place (tree_of (picked b c.loop-form.places.items) s) = subst (λ ps. HasTree c.add_form.new.bank c.in_ok-place.place (tree_of (picked b ps) s)) c.as_slice.ensures.value c.in_ok-place.ensures.ok in
    let e : c.push.new.self.items ≡ c.loop-form.places.items ++ c.in_ok-place.place ∷ [] = search rules in
    record {
      table = table_step b c.add_form.new.bank c.loop-form.places.items c.push.new.self.items c.in_ok-place.place s (drop (c.loop-form.form-index + 1) c.args.forms.now) t c.add_form.ensures.extends n h e;
      extends = Extends-trans c.args.bank.now b c.add_form.new.bank c.loop-form.invariant.extends c.add_form.ensures.extends;
      distinct = c.add_form.ensures.distinct;
      some = let l = c.loop-form.invariant.some in omega (arith, ap length e, length_push c.loop-form.places.items c.in_ok-place.place);
    }

pub returns-clause-ok : goal.returns-clause-ok
returns-clause-ok c =
    let t = grown (picked c.args.bank.now c.args.terms.now) c.args.forms.now in
    let below = c.loop-form-test.false in
    let d : drop c.loop-form.form-index c.args.forms.now ≡ [] = drop_all c.loop-form.form-index c.args.forms.now below in
    let a : IsTable c.loop-form.bank c.loop-form.places.items [] t = subst (λ ss. IsTable c.loop-form.bank c.loop-form.places.items ss t) d c.loop-form.invariant.table in
    record { below = a.below; trees = a.trees }
