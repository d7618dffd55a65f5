use Rattle.std.proofs.Common.{◌≡◌, ◌≤◌, List, sym, ap, ◌∙◌, subst, arith, rules}
use Rattle.std.proofs.lemmas.Result.{on_ok_weaker}
use Rattle.core_expr.specs.Tree.{Tree}
use Rattle.core_expr.specs.Nodes.{picked}
use Rattle.seq_calculus.specs.Calculus.{Proof}
use Rattle.term_bank.specs.Banks.{tree_at as bank_tree}
use Rattle.term_shapes.specs.Shapes.{HasShape}
use Rattle.proof_writer.specs.Written.{opens, count, tree_at}
use Rattle.proof_trees.specs.Valued.{entries_of}
use Rattle.rule_proofs.specs.Values.{whole_of}
use Rattle.rule_proofs.specs.Shown.{shown_of, whole_shown, IsVisited}
use Rattle.rule_proofs.proofs.Shown.{undecided_turn, decided_turn, undecided_of}
use Rattle.rule_proofs.proofs.tasks.visit.Goals as goal

pub returns-in-Undecided-clause-ok : goal.returns-in-Undecided-clause-ok
returns-in-Undecided-clause-ok c =
    let v = c.args.w.now in
    let u = c.find_reason.new.w in
    let ts = v.trees in
    let f = c.args.f in
    let x = c.shape_at-shape.result in
    let vs = c.args.values.now.items in
    let old = c.args.tasks.now.items in
    let new = c.visit_undecided.new.tasks.items in
    let z = shown_of c.visit_undecided.new.values.items (opens c.visit_undecided.new.w) in
    let form : HasShape ts (bank_tree ts f) x = search rules in
    let e1 : tree_at u f ≡ tree_at v f = c.in_ok-reason.ensures.same f c.requires.below in
    on_ok_weaker c.visit_undecided.result
    (λ h. undecided_turn ts (entries_of (picked ts c.args.grounds.now)) f x old new (shown_of vs (opens v)) z form c.shape_at-shape.ensures.below (sym c.in_ok-reason.ensures.ok ∙ ap whole_of c.in-Undecided.is)
    (subst (λ (t : Tree). IsVisited x f t old (shown_of vs (opens v)) new z) e1 (subst (λ (ps : List Proof). IsVisited x f (tree_at u f) old (shown_of vs ps) new z) c.in_ok-reason.ensures.opens h)))
    c.visit_undecided.ensures.ok

pub returns-in_default : goal.returns-in_default
returns-in_default c =
    let v = c.args.w.now in
    let u = c.find_reason.new.w in
    let ts = v.trees in
    let f = c.args.f in
    let vs = c.args.values.now.items in
    let tasks = c.args.tasks.now.items in
    let z = shown_of c.settle.new.values.items (opens c.settle.new.w) in
    let e1 : tree_at u f ≡ tree_at v f = c.in_ok-reason.ensures.same f c.requires.below in
    let m : count v ≤ count u = c.in_ok-reason.ensures.more in
    let n : count u ≤ count c.settle.new.w = c.settle.ensures.more in
    record {
      more = omega (arith, m, n);
      same = λ i l. c.settle.ensures.same i (omega (arith, l, m)) ∙ c.in_ok-reason.ensures.same i l;
      enough = search rules;
      ok = on_ok_weaker c.settle.result
          (λ h. decided_turn ts (entries_of (picked ts c.args.grounds.now)) f tasks (shown_of vs (opens v)) z (whole_of c.in_ok-reason.reason) c.in_ok-reason.ensures.ok (λ q. c.in_default.not-Undecided (undecided_of c.in_ok-reason.reason q))
          (h ∙ (λ i. whole_shown (whole_of c.in_ok-reason.reason) (e1 i) (shown_of vs (c.in_ok-reason.ensures.opens i)))))
          c.settle.ensures.ok;
    }
