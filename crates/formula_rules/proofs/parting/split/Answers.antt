use Rattle.std.proofs.Common.{subst}
use Rattle.search_definition.specs.Splits.{splitting}
use Rattle.term_bank.specs.Banks.{tree_at}
use Rattle.formula_rules.specs.Answers.{HasPartings}
use Rattle.formula_rules.proofs.Giving.{same_tree, split_given}
use Rattle.formula_rules.proofs.parting.split.Goals as goal

pub returns-in_ok-from_slice-in-Some-clause-ok : goal.returns-in_ok-from_slice-in-Some-clause-ok
returns-in_ok-from_slice-in-Some-clause-ok c =
    let t = tree_at c.args.bank.now c.args.f in
    split_given c.parting_of.new.bank c.args.f t c.in-Some.field-0 (splitting t) c.in_ok-from_slice-in-Some.field-0 c.new.result (subst (λ o. HasPartings c.parting_of.new.bank o (splitting t)) c.in-Some.is c.in_ok-rule.ensures.ok) (same_tree c.args.bank.now c.parting_of.new.bank c.args.f c.parting_of.ensures.extends c.requires) c.in_ok-from_slice-in-Some.ensures.items c.new.ensures.items
