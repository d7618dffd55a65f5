use Rattle.std.proofs.Common.{rules, ℕ, List, length, nat_eq, ap, ◌∙◌}
use Rattle.term_bank.specs.Banks.{HasNode}
use Rattle.term_bank.specs.Slots.{node_of}
use Rattle.instance_terms.proofs.AtomLaws.{stands_alone}
use Rattle.instance_terms.proofs.expand.has_no_parts.Goals as goal

pub returns : goal.returns
returns c =
    let n = node_of c.unwrap.result.now in
    let h : HasNode c.args.bank.now c.args.t n = search (rules, c.node.ensures.some) in
    stands_alone c.args.bank.now c.args.t n c.is_empty.result h (c.is_empty.ensures ∙ ap (λ (xs : List ℕ). nat_eq (length xs) 0) c.as_slice.ensures.value)
