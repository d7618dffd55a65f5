use Rattle.std.proofs.Common.{◌++◌, map, OnOk, sym, ap, subst, ◌∙◌}
use Rattle.std.proofs.lemmas.List.{append-nil}
use Rattle.symbol_table.specs.Symbols.{symbol_at}
use Rattle.plain_syntax.specs.Syntax.{fact_of}
use Rattle.proof_contexts.specs.Expansion.{has_number}
use Rattle.usable_facts.specs.Proofs.{hidden}
use Rattle.usable_facts.specs.Theorems.{chosen_keys}
use Rattle.theorem_leaves.specs.Homes.{means, entries}
use Rattle.theorem_leaves.specs.Citations.{keys_in_all}
use Rattle.theorem_leaves.specs.Citing.{Adds}
use Rattle.theorem_leaves.proofs.Citing.{keys-by, keys-steps, keys-none, steps-more}
use Rattle.theorem_leaves.proofs.citations.Citations.+proofs.Goals as goal

pub proof-returns-in-By : goal.proof-returns-in-By
proof-returns-in-By t c =
    let w = c.args.self.now in let m = means w.home in let o = symbol_at w.outline.now in let es = entries w.home in
    subst (λ ks. OnOk c.facts.result (Adds w ks c.args.found.now c.facts.new.found))
    (ap (λ l. hidden m o es (map fact_of l)) c.as_slice.ensures ∙ sym (keys-by m o es c.args.proof.now c.in-By.place c.in-By.only c.in-By.facts c.in-By.defs c.in-By.is))
    c.facts.ensures

pub proof-returns-in-Steps : goal.proof-returns-in-Steps
proof-returns-in-Steps t c =
    let w = c.args.self.now in let m = means w.home in let o = symbol_at w.outline.now in let es = entries w.home in
    subst (λ ks. OnOk c.steps.result (Adds w ks c.args.found.now c.steps.new.found))
    (ap (keys_in_all m o es) c.as_slice-in-Steps.ensures ∙ sym (keys-steps m o es c.args.proof.now c.in-Steps.steps c.in-Steps.is))
    c.steps.ensures

pub proof-returns-in_default : goal.proof-returns-in_default
proof-returns-in_default t c =
    let w = c.args.self.now in
    sym (append-nil c.args.found.now)
    ∙ ap (λ ks. c.args.found.now ++ chosen_keys (has_number w.theorems.now.keys) ks)
    (sym (keys-none (means w.home) (symbol_at w.outline.now) (entries w.home) c.args.proof.now c.in_default.not-By c.in_default.not-Steps))

pub steps-loop-step-preserved : goal.steps-loop-step-preserved
steps-loop-step-preserved t c =
    let w = c.args.self.now in
    steps-more (means w.home) (symbol_at w.outline.now) (entries w.home) (has_number w.theorems.now.keys) c.args.steps.now c.loop-step.found c.step.new.found c.loop-step.step-index c.step-item.result
    _ c.loop-step.invariant c.loop-step-test.true c.step-item.is (sym c.in_ok-step.ensures.on ∙ c.if-not-branch.false) c.in_ok-step.ensures.cites
