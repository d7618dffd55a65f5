use Rattle.std.proofs.Common.{◌≡◌, refl, sym, ◌∙◌, ap, true, length, rules}
use Rattle.core_expr.specs.Tree.{Tree}
use Rattle.core_expr.specs.Flat.{rows_of, tree_of}
use Rattle.core_expr.specs.Spans.{spans_of}
use Rattle.core_expr.specs.Coding.{tree_of-rows_of}
use Rattle.core_expr.specs.Heads.{make_kind, is_well_formed}
use Rattle.core_expr.proofs.FlatLaws.{rows_made}
use Rattle.core_expr.proofs.BuildLaws.{made_rows, made_spans, formed-make, kind_body}
use Rattle.core_expr.proofs.expr.Expr.of_kind.Goals as goal

rows : (c : goal.In_ok-push-2) → c.push.new.self ≡ rows_of (make_kind c.args.kind c.args.numbers c.args.parts.items)
rows c =
    let count : c.len-count.result ≡ length c.args.parts.items = search rules in
    made_rows c.args.kind c.args.numbers c.args.numbers c.args.parts.items c.len-count.result c.in_ok-rows.field-0.rows c.push.new.self
    c.requires refl count c.in_ok-rows.ensures.rows c.in_ok-push.ensures.ok

pub children-requires : goal.children-requires
children-requires c = kind_body c.args.kind c.args.numbers (length c.args.parts.items) c.requires

pub invariant_of-result : goal.invariant_of-result
invariant_of-result c =
    let m : Tree = make_kind c.args.kind c.args.numbers c.args.parts.items in
    let w : is_well_formed m ≡ true = formed-make c.args.kind c.args.numbers c.args.parts.items c.requires c.in_ok-rows.ensures.formed in
    let r = rows_made m c.push.new.self (rows c) w in
    let s = made_spans c.args.kind c.args.numbers c.args.parts.items c.len.result c.push.new.self c.in_ok-rows.field-0.spans c.push-2.new.self c.requires (rows c) c.in_ok-rows.ensures.spans c.len.ensures c.in_ok-push-2.ensures.ok in
    (r.0, r.1.0, s ∙ ap spans_of (sym r.1.1))

pub returns : goal.returns
returns c = ap tree_of (rows c) ∙ tree_of-rows_of (make_kind c.args.kind c.args.numbers c.args.parts.items)
