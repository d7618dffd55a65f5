use Rattle.std.proofs.Common.{subst, sym}
use Rattle.term_bank.specs.Banks.{tree_at}
use Rattle.search_trace.specs.Traces.{moves_of}
use Rattle.seq_calculus.specs.Steps.{proof_of}
use Rattle.proof_trees.specs.Told.{MovesTold}
use Rattle.seq_translate.specs.Translated.{IsTranslated}
use Rattle.leaf_prover.proofs.ProofLaws.{moves_told, proof_right, values_right, spent_right}
use Rattle.leaf_prover.proofs.engine.verdict_of.Goals as goal

pub translate-requires-clause-told : goal.translate-requires-clause-told
translate-requires-clause-told c =
    let s = c.args.s in
    subst (λ ts. MovesTold (moves_of s.bank ts)) (sym c.as_slice.ensures.value) (moves_told c.steps_told.ensures c.args.limit c.in-Closed.turns c.args.canon.now s c.requires.form c.requires.searched c.in-Closed.is)

pub returns-in_ok-proof-in-Closed : goal.returns-in_ok-proof-in-Closed
returns-in_ok-proof-in-Closed c =
    let s = c.args.s in
    let p = c.in_ok-proof-in-Closed.proof in
    proof_right c.args.limit c.in-Closed.turns c.args.canon.now s p c.requires.form c.requires.searched c.in-Closed.is
    (subst (λ ts. IsTranslated s.bank ts (tree_at s.bank s.goal) (proof_of p)) c.as_slice.ensures.value c.in_ok-proof-in-Closed.ensures)

pub returns-in_ok-valuation-in-Saturated : goal.returns-in_ok-valuation-in-Saturated
returns-in_ok-valuation-in-Saturated c =
    values_right c.args.limit c.in-Saturated.turns c.args.canon.now c.args.s c.as_slice-branch.result.now c.in_ok-valuation-in-Saturated.valuation c.requires.searched c.in-Saturated.is c.as_slice-branch.ensures.value c.in_ok-valuation-in-Saturated.ensures

pub returns-in-Spent : goal.returns-in-Spent
returns-in-Spent c = spent_right c.args.limit c.in-Spent.turns c.args.canon.now c.args.s c.requires.searched c.in-Spent.is
