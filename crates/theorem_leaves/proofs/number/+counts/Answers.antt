use Rattle.std.proofs.Common.{◌≡◌, ◌+◌, IfOk, ap, subst, ◌∙◌, arith}
use Rattle.theorem_leaves.specs.Visits.{count_all}
use Rattle.theorem_leaves.proofs.Proofs.{count-in-steps, count-in-none}
use Rattle.theorem_leaves.proofs.number.+counts.Goals as goal

pub number_after-returns-in-Steps : goal.number_after-returns-in-Steps
number_after-returns-in-Steps t c =
    subst (λ m. IfOk c.number_after_all.result (λ n. n ≡ c.args.first + m)) (ap count_all c.as_slice.ensures ∙ count-in-steps c.args.proof.now c.in-Steps.steps c.in-Steps.is)
    c.number_after_all.ensures

pub number_after-returns-in_default : goal.number_after-returns-in_default
number_after-returns-in_default t c =
    let none = count-in-none c.args.proof.now c.in_default.not-Steps in
    let here : c.args.first ≡ c.args.first + 0 = omega arith in
    here ∙ ap (λ n. c.args.first + n) none
