use Rattle.std.proofs.Common.{◌≡◌, ◌∙◌, ◌++◌, ◌∷◌, ◌-◌, [], List, ℕ, ap, length, take, rules, arith}
use Rattle.term_bank.proofs.InternLaws.{parts_stacked, row_form, parts_below, row_added}
use Rattle.term_bank.proofs.intern.add_row.Goals as goal

pub overflow_sub-start : goal.overflow_sub-start
overflow_sub-start c =
    let p = parts_stacked c.args.bank.now c.args.stack.now.items c.args.e.now c.args.i c.requires.row c.requires.run in
    let len : c.len.result ≡ length c.args.stack.now.items = search rules in
    let parts = c.parts.ensures.row in
    omega (arith, p, len, parts)

pub make_row-requires-clause-form : goal.make_row-requires-clause-form
make_row-requires-clause-form c = row_form c.args.bank.now c.args.stack.now.items c.args.e.now c.args.i c.requires.row c.requires.run

pub make_row-requires-clause-below : goal.make_row-requires-clause-below
make_row-requires-clause-below c =
    parts_below (length c.args.bank.now) c.deref.result.now c.args.stack.now.items (c.len.result - c.parts.result) c.deref.ensures.value c.requires.run.below

pub returns-clause-ok : goal.returns-clause-ok
returns-clause-ok c =
    let k : ℕ = c.len.result - c.parts.result in
    let len : c.len.result ≡ length c.args.stack.now.items = search rules in
    let cut : c.truncate.new.self.items ≡ take k c.args.stack.now.items = search rules in
    let out : c.push.new.self.items ≡ c.truncate.new.self.items ++ c.in_ok-index.index ∷ [] = search rules in
    row_added c.args.bank.now c.make_row.new.bank c.deref.result.now c.args.stack.now.items c.push.new.self.items c.args.e.now c.args.i c.len.result c.parts.result c.in_ok-index.index c.requires.row c.requires.run c.deref.ensures.value len c.parts.ensures.row c.make_row.ensures.extends c.in_ok-index.ensures.ok (out ∙ ap (λ (is : List ℕ). is ++ c.in_ok-index.index ∷ []) cut)
