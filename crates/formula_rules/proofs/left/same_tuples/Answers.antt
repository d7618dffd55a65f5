use Rattle.std.proofs.Common.{◌≡◌, ◌∙◌, ap, sym, length, rules}
use Rattle.core_expr.specs.Heads.{subtrees}
use Rattle.core_expr.specs.Tree.{and_, true_}
use Rattle.core_expr.specs.Nodes.{picked}
use Rattle.seq_calculus.specs.Schemas.{join, equal_pairs}
use Rattle.term_bank.specs.Banks.{tree_at}
use Rattle.formula_rules.proofs.Raising.{ok_is}
use Rattle.formula_rules.proofs.Giving.{tuples_apart, tuples_alike}
use Rattle.formula_rules.proofs.left.same_tuples.Goals as goal

pub returns-then-len-clause-ok : goal.returns-then-len-clause-ok
returns-then-len-clause-ok c =
    let ts = c.args.bank.now in
    let ls = c.in_ok-left.left.items in
    let rs = c.in_ok-right.right.items in
    let e : subtrees (tree_at ts c.args.a) ≡ picked ts ls = c.parts_at.ensures.trees ∙ ap (picked ts) (sym c.in_ok-left.ensures.items) in
    let f : subtrees (tree_at ts c.args.b) ≡ picked ts rs = c.parts_at-2.ensures.trees ∙ ap (picked ts) (sym c.in_ok-right.ensures.items) in
    let m : c.len.result ≡ length ls = search rules in
    let n : c.len-2.result ≡ length rs = search rules in
    ok_is c.make.result c.make.new.bank _ _ (tuples_apart ts (subtrees (tree_at ts c.args.a)) (subtrees (tree_at ts c.args.b)) ls rs e f (λ q. c.if-len.true (m ∙ q ∙ sym n))) c.make.ensures.ok

pub returns-clause-ok : goal.returns-clause-ok
returns-clause-ok c =
    let ts = c.args.bank.now in
    let ls = c.in_ok-left.left.items in
    let rs = c.in_ok-right.right.items in
    let e : subtrees (tree_at ts c.args.a) ≡ picked ts ls = c.parts_at.ensures.trees ∙ ap (picked ts) (sym c.in_ok-left.ensures.items) in
    let f : subtrees (tree_at ts c.args.b) ≡ picked ts rs = c.parts_at-2.ensures.trees ∙ ap (picked ts) (sym c.in_ok-right.ensures.items) in
    let m : c.len.result ≡ length ls = search rules in
    let n : c.len-2.result ≡ length rs = search rules in
    let q : length ls ≡ length rs = sym m ∙ c.if-len.false ∙ n in
    let k : picked c.equal_pairs.new.bank c.as_slice-3.result.now ≡ equal_pairs (picked ts ls) (picked ts rs) =
    ap (picked c.equal_pairs.new.bank) c.as_slice-3.ensures.value ∙ c.in_ok-equations.ensures.ok.trees ∙ (λ i. equal_pairs (picked ts (c.as_slice.ensures.value i)) (picked ts (c.as_slice-2.ensures.value i))) in
    ok_is c.join_all.result c.join_all.new.bank _ _ (ap (join (λ a b. and_ a b) true_) k ∙ tuples_alike ts (subtrees (tree_at ts c.args.a)) (subtrees (tree_at ts c.args.b)) ls rs e f q) c.join_all.ensures.ok
