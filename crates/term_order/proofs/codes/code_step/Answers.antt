use Rattle.std.proofs.Common.{◌≡◌, rules, None, Some, get_or, subst}
use Rattle.std.proofs.lemmas.List.{get_or_read}
use Rattle.core_expr.specs.Nodes.{AreBelow}
use Rattle.term_bank.specs.Banks.{HasNode}
use Rattle.term_bank.specs.Slots.{node_of}
use Rattle.term_walks.specs.Places.{IsPlace}
use Rattle.term_walks.proofs.PlaceLaws.{part_below}
use Rattle.term_order.proofs.CodeLaws.{head_less, number_less, some_apart, compares, still_apart, place_some}
use Rattle.term_order.proofs.codes.code_step.Goals as goal

pub returns-then-a-b : goal.returns-then-a-b
returns-then-a-b c =
    let ts = c.args.bank.now in
    let n = node_of c.unwrap-a.result.now in
    let m = node_of c.unwrap-b.result.now in
    let gi : HasNode ts c.args.i n = search (rules, c.node.ensures.some) in
    let gj : HasNode ts c.args.j m = search (rules, c.node-2.ensures.some) in
    head_less ts c.args.i c.args.j n m gi gj c.if-a-b.true

pub returns-in-Some : goal.returns-in-Some
returns-in-Some c =
    let ts = c.args.bank.now in
    let n = node_of c.unwrap-a.result.now in
    let m = node_of c.unwrap-b.result.now in
    let gi : HasNode ts c.args.i n = search (rules, c.node.ensures.some) in
    let gj : HasNode ts c.args.j m = search (rules, c.node-2.ensures.some) in
    let k = c.in-Some.k in
    let place : IsPlace n.numbers m.numbers (Some k) = subst (λ xs. IsPlace xs m.numbers (Some k)) c.as_slice.ensures.value (subst (λ ys. IsPlace c.as_slice.result.now ys (Some k)) c.as_slice-2.ensures.value c.in-Some.ensures) in
    let x : c.index.result.now ≡ get_or n.numbers k 0 = get_or_read n.numbers k c.index.result.now place.0 c.index.ensures 0 in
    let y : c.index-in-Some.result.now ≡ get_or m.numbers k 0 = get_or_read m.numbers k c.index-in-Some.result.now place.1 c.index-in-Some.ensures 0 in
    number_less ts c.args.i c.args.j n m gi gj c.if-a-b.false k c.index.result.now c.index-in-Some.result.now place x y

pub unwrap-k-requires : goal.unwrap-k-requires
unwrap-k-requires c =
    let ts = c.args.bank.now in
    let n = node_of c.unwrap-a.result.now in
    let m = node_of c.unwrap-b.result.now in
    let gi : HasNode ts c.args.i n = search (rules, c.node.ensures.some) in
    let gj : HasNode ts c.args.j m = search (rules, c.node-2.ensures.some) in
    let same : IsPlace n.numbers m.numbers None = subst (λ xs. IsPlace xs m.numbers None) c.as_slice.ensures.value (subst (λ ys. IsPlace c.as_slice.result.now ys None) c.as_slice-2.ensures.value c.in_default.ensures) in
    let place : IsPlace n.parts m.parts c.first_apart-2.result = subst (λ xs. IsPlace xs m.parts c.first_apart-2.result) c.as_slice-3.ensures.value (subst (λ ys. IsPlace c.as_slice-3.result.now ys c.first_apart-2.result) c.as_slice-4.ensures.value c.first_apart-2.ensures) in
    place_some n.parts m.parts c.first_apart-2.result place (some_apart ts c.args.i c.args.j n m gi gj c.count.ensures.distinct c.requires.apart c.if-a-b.false same)

pub returns : goal.returns
returns c =
    let ts = c.args.bank.now in
    let n = node_of c.unwrap-a.result.now in
    let m = node_of c.unwrap-b.result.now in
    let gi : HasNode ts c.args.i n = search (rules, c.node.ensures.some) in
    let gj : HasNode ts c.args.j m = search (rules, c.node-2.ensures.some) in
    let bi : AreBelow c.args.i n.parts = search (rules, c.node.ensures.below) in
    let bj : AreBelow c.args.j m.parts = search (rules, c.node-2.ensures.below) in
    let same : IsPlace n.numbers m.numbers None = subst (λ xs. IsPlace xs m.numbers None) c.as_slice.ensures.value (subst (λ ys. IsPlace c.as_slice.result.now ys None) c.as_slice-2.ensures.value c.in_default.ensures) in
    let k = c.unwrap-k.result in
    let told : IsPlace c.as_slice-3.result.now c.as_slice-4.result.now (Some k) = subst (IsPlace c.as_slice-3.result.now c.as_slice-4.result.now) c.unwrap-k.ensures c.first_apart-2.ensures in
    let place : IsPlace n.parts m.parts (Some k) = subst (λ xs. IsPlace xs m.parts (Some k)) c.as_slice-3.ensures.value (subst (λ ys. IsPlace c.as_slice-3.result.now ys (Some k)) c.as_slice-4.ensures.value told) in
    let p : c.index-2.result.now ≡ get_or n.parts k 0 = get_or_read n.parts k c.index-2.result.now place.0 c.index-2.ensures 0 in
    let q : c.index-3.result.now ≡ get_or m.parts k 0 = get_or_read m.parts k c.index-3.result.now place.1 c.index-3.ensures 0 in
    (part_below c.args.i k c.index-2.result.now n.parts bi place.0 p, part_below c.args.j k c.index-3.result.now m.parts bj place.1 q, still_apart (get_or n.parts k 0) (get_or m.parts k 0) c.index-2.result.now c.index-3.result.now p q place.3, compares ts c.args.i c.args.j n m gi gj c.if-a-b.false same k c.index-2.result.now c.index-3.result.now place p q)
