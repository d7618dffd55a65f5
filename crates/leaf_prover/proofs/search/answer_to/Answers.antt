use Rattle.std.proofs.Common.{refl, subst, sym}
use Rattle.propositional_laws.specs.Formulas.{symbol_count}
use Rattle.leaf_prover.specs.Answers.{WithValues}
use Rattle.leaf_prover.proofs.SearchLaws.{answer_is, answer_values}
use Rattle.leaf_prover.proofs.search.answer_to.Goals as goal

pub returns-clause-answer : goal.returns-clause-answer
returns-clause-answer c =
    answer_is c.args.canon.now c.args.limit c.args.limit _ c.as_slice-branch.result.now c.in_ok-s.s.branch.items c.in_ok-s.s.ending c.in_ok-answer.answer refl c.as_slice-branch.ensures.value c.in_ok-s.ensures.ends c.in_ok-answer.ensures

pub returns-clause-values : goal.returns-clause-values
returns-clause-values c = subst (WithValues (symbol_count c.args.canon.now)) (sym (returns-clause-answer c)) (answer_values c.args.limit c.args.canon.now)
