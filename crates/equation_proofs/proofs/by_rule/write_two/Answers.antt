use Rattle.std.proofs.Common.{◌∷◌, [], ◌∙◌}
use Rattle.term_bank.proofs.MarkLaws.{on_ok}
use Rattle.search_definition.specs.Rules.Sides.{Both}
use Rattle.search_trace.specs.Traces.{added_trees}
use Rattle.proof_writer.specs.Written.{opens}
use Rattle.proof_writer.specs.Shapes.{first_of, second_of, rest_of}
use Rattle.equation_proofs.proofs.StepLaws.{told_from, by_from}
use Rattle.equation_proofs.proofs.by_rule.write_two.Goals as goal

pub two_sides-requires-clause-told : goal.two_sides-requires-clause-told
two_sides-requires-clause-told c = told_from c.args.w.now.trees c.args.used.now (Both (added_trees c.args.w.now.trees c.args.first.now) (added_trees c.args.w.now.trees c.args.second.now)) c.requires.told c.as_slice-named.result.now c.as_slice-terms.result.now c.as_slice-named.ensures.value c.as_slice-terms.ensures.value

pub returns-clause-ok : goal.returns-clause-ok
returns-clause-ok c =
    let e = by_from c.args.w.now.trees c.args.used.now (Both (added_trees c.args.w.now.trees c.args.first.now) (added_trees c.args.w.now.trees c.args.second.now)) c.requires.told c.as_slice-named.result.now c.as_slice-terms.result.now c.as_slice-named.ensures.value c.as_slice-terms.ensures.value (first_of (opens c.args.w.now) ∷ second_of (opens c.args.w.now) ∷ []) in
    on_ok c.two_sides.result _ _ (λ h. h ∙ (λ i. e i ∷ rest_of (rest_of (opens c.args.w.now)))) c.two_sides.ensures.ok
