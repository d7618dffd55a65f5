use Rattle.std.proofs.Common.{◌≡◌, ◌∙◌, ◌<◌, ◌%◌, length, get_or, ap, sym, rules, subst, [], ◌∷◌, ◌++◌}
use Rattle.std.proofs.lemmas.List.{get_or_read}
use Rattle.std.proofs.Math.Nat.{mod-lt}
use Rattle.core_expr.specs.Nodes.{node_kind, picked}
use Rattle.term_bank.specs.Loose.{loose_over}
use Rattle.term_bank.specs.Slots.{trees, node_of}
use Rattle.term_bank.specs.declared.node.Slot.{Slot}
use Rattle.term_bank.proofs.TableLaws.{loose-over}
use Rattle.term_bank.proofs.SlotLaws.{IsHeld-pushed}
use Rattle.term_bank.proofs.grow.add.Goals as goal

pub returns-clause-held : goal.returns-clause-held
returns-clause-held c =
    let ss = c.args.slots.now.items in
    let bs = c.args.buckets.now.items in
    let q : Slot = record { node = record { head = c.args.head; numbers = c.in_ok-numbers.numbers; parts = c.in_ok-parts.parts }; hash = c.args.hash; next = c.index-next.result.now; reach = c.reach_over-reach.result } in
    let en : c.in_ok-numbers.numbers.items ≡ c.args.numbers.now = search rules in
    let ep : c.in_ok-parts.parts.items ≡ c.args.parts.now = search rules in
    let n : node_of q.node ≡ record { head = c.args.head; numbers = c.args.numbers.now; parts = c.args.parts.now } = λ i. record { head = c.args.head; numbers = en i; parts = ep i } in
    let items : c.push.new.self.items ≡ ss ++ q ∷ [] = search rules in
    let size : c.len.result ≡ length bs = search rules in
    let count : c.len-i.result ≡ length ss = search rules in
    let next : c.index-next.result.now ≡ get_or bs (c.args.hash % c.len.result) 0 = get_or_read bs (c.args.hash % c.len.result) _ (subst (λ z. c.args.hash % z < length bs) (sym size) (mod-lt c.args.hash c.requires.held.some)) (search rules) 0 in
    let same : c.deref.result.now ≡ ss = search rules in
    IsHeld-pushed ss c.push.new.self.items bs c.len.result c.len-i.result q (record { head = c.args.head; numbers = c.args.numbers.now; parts = c.args.parts.now }) items size count n c.requires.held (c.requires.form, c.requires.below) c.requires.hash_is next (c.reach_over-reach.ensures ∙ ap (λ s. loose_over (node_kind c.args.head c.args.numbers.now) c.args.numbers.now (picked (trees s) c.args.parts.now)) same ∙ sym (loose-over (trees ss) (record { head = c.args.head; numbers = c.args.numbers.now; parts = c.args.parts.now }))) c.requires.absent
