use Rattle.std.proofs.Common.{◌≡◌, ◌+◌, ◌∷◌, ◌++◌, [], sym, subst, ap, ◌∙◌, rules}
use Rattle.core_expr.specs.Nodes.{AreBelow, IsNode, tree_over}
use Rattle.seq_calculus.specs.declared.lists.ProofNode.{ProofNode}
use Rattle.seq_calculus.specs.Lists.{node_of}
use Rattle.term_bank.specs.Banks.{HasNode}
use Rattle.term_bank.specs.Slots.{node_of as kept_node}
use Rattle.proof_writer.proofs.TableLaws.{IsTable, IsTable-more}
use Rattle.proof_writer.proofs.table.table.Goals as goal

pub loop-i-preserved : goal.loop-i-preserved
loop-i-preserved c =
    let ns = c.loop-i.nodes.items in
    let ts = c.args.bank.now in
    let i = c.loop-i.i in
    let n : ProofNode = c.in_ok-proof_node.field-0 in
    let b = c.unwrap.result.now in
    let e : c.push.new.self.items ≡ ns ++ n ∷ [] = search rules in
    let h : HasNode ts i (kept_node b) = search rules in
    let l : AreBelow i b.parts.items = search rules in
    let q : n ≡ record { head = b.head; numbers = b.numbers.items; parts = b.parts.items } = c.in_ok-proof_node.ensures in
    subst (λ ms. IsTable ms ts (i + 1)) (sym e)
    (IsTable-more ns n ts i c.loop-i.invariant h.within (subst (λ (m : ProofNode). IsNode (node_of m) i) (sym q) (h.node.0, l)) (h.tree ∙ ap (λ (m : ProofNode). tree_over ts (node_of m)) (sym q)))
