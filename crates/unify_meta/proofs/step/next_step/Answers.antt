use Rattle.std.proofs.Common.{◌≡◌, ◌⊎◌, ◌∙◌, rules, None, Some, sym, subst, IsTrue, true, false, get_or}
use Rattle.std.proofs.lemmas.List.{get_or_read}
use Rattle.core_expr.specs.Heads.{kind_at}
use Rattle.core_expr.specs.Nodes.{AreBelow}
use Rattle.term_bank.specs.Banks.{HasNode}
use Rattle.term_bank.specs.Slots.{node_of}
use Rattle.unify_meta.specs.Metas.{symbols}
use Rattle.term_walks.specs.Places.{IsPlace}
use Rattle.unify_meta.specs.Disagreements.{is_listing}
use Rattle.unify_meta.proofs.DifferLaws.{other_heads, other_numbers}
use Rattle.term_walks.proofs.PlaceLaws.{part_below}
use Rattle.unify_meta.proofs.StepLaws.{goes_below, ends_short}
use Rattle.unify_meta.proofs.step.next_step.Goals as goal

pub returns-then-a-b : goal.returns-then-a-b
returns-then-a-b c =
    let ts = c.args.bank.now in
    let n = node_of c.unwrap-a.result.now in
    let m = node_of c.unwrap-b.result.now in
    let gi : HasNode ts c.args.i n = search (rules, c.node.ensures.some) in
    let gj : HasNode ts c.args.j m = search (rules, c.node-2.ensures.some) in
    other_heads ts (symbols c.args.metas.now) c.args.i c.args.j n m gi gj (c.in_default.ensures ts c.args.i gi) (c.in_default-meta_number.ensures ts c.args.j gj) c.if-a-b.true

pub returns-then-not-agree : goal.returns-then-not-agree
returns-then-not-agree c =
    let ts = c.args.bank.now in
    let n = node_of c.unwrap-a.result.now in
    let m = node_of c.unwrap-b.result.now in
    let gi : HasNode ts c.args.i n = search (rules, c.node.ensures.some) in
    let gj : HasNode ts c.args.j m = search (rules, c.node-2.ensures.some) in
    other_numbers ts (symbols c.args.metas.now) c.args.i c.args.j n m gi gj (c.in_default.ensures ts c.args.i gi) (c.in_default-meta_number.ensures ts c.args.j gj) c.if-a-b.false (λ h. let e : true ≡ false = sym (c.agree.ensures.1 h) ∙ c.if-not-agree.true in cc)

pub returns-in-Some-first_apart : goal.returns-in-Some-first_apart
returns-in-Some-first_apart c =
    let ts = c.args.bank.now in
    let n = node_of c.unwrap-a.result.now in
    let m = node_of c.unwrap-b.result.now in
    let gi : HasNode ts c.args.i n = search (rules, c.node.ensures.some) in
    let gj : HasNode ts c.args.j m = search (rules, c.node-2.ensures.some) in
    let bi : AreBelow c.args.i n.parts = search (rules, c.node.ensures.below) in
    let bj : AreBelow c.args.j m.parts = search (rules, c.node-2.ensures.below) in
    let like : (n.numbers ≡ m.numbers) ⊎ IsTrue (is_listing (kind_at n.head)) = c.agree.ensures.0 c.if-not-agree.false in
    let k = c.in-Some-first_apart.k in
    let place : IsPlace n.parts m.parts (Some k) = subst (λ xs. IsPlace xs m.parts (Some k)) c.as_slice.ensures.value (subst (λ ys. IsPlace c.as_slice.result.now ys (Some k)) c.as_slice-2.ensures.value c.in-Some-first_apart.ensures) in
    let p : c.index.result.now ≡ get_or n.parts k 0 = get_or_read n.parts k c.index.result.now place.0 c.index.ensures 0 in
    let q : c.index-in-Some-first_apart.result.now ≡ get_or m.parts k 0 = get_or_read m.parts k c.index-in-Some-first_apart.result.now place.1 c.index-in-Some-first_apart.ensures 0 in
    (part_below c.args.i k c.index.result.now n.parts bi place.0 p, part_below c.args.j k c.index-in-Some-first_apart.result.now m.parts bj place.1 q, goes_below c.difference_by_parts.ensures (symbols c.args.metas.now) ts c.args.i c.args.j n m c.count.ensures.distinct gi gj c.requires.apart c.if-a-b.false like k c.index.result.now c.index-in-Some-first_apart.result.now place p q)

pub returns-in-None : goal.returns-in-None
returns-in-None c =
    let ts = c.args.bank.now in
    let n = node_of c.unwrap-a.result.now in
    let m = node_of c.unwrap-b.result.now in
    let gi : HasNode ts c.args.i n = search (rules, c.node.ensures.some) in
    let gj : HasNode ts c.args.j m = search (rules, c.node-2.ensures.some) in
    let like : (n.numbers ≡ m.numbers) ⊎ IsTrue (is_listing (kind_at n.head)) = c.agree.ensures.0 c.if-not-agree.false in
    let place : IsPlace n.parts m.parts None = subst (λ xs. IsPlace xs m.parts None) c.as_slice.ensures.value (subst (λ ys. IsPlace c.as_slice.result.now ys None) c.as_slice-2.ensures.value c.in-None.ensures) in
    ends_short c.difference_by_parts.ensures (symbols c.args.metas.now) ts c.args.i c.args.j n m c.count.ensures.distinct gi gj c.requires.apart c.if-a-b.false like place
