use Rattle.std.proofs.lemmas.Bool.{and_parts}
use Rattle.leaf_prover.specs.Forms.{are_form_parts, is_form_part}
use Rattle.leaf_prover.proofs.StartLaws.{all_canonical}
use Rattle.leaf_prover.proofs.Meant.{all_closed, closed}
use Rattle.leaf_prover.proofs.engine.recall_or_prove.Goals as goal

pub hit-requires-clause-canonical_facts : goal.hit-requires-clause-canonical_facts
hit-requires-clause-canonical_facts c = let e = c.args.canon.now in all_canonical e.facts (and_parts (are_form_parts e.facts) (is_form_part e.goal) c.requires.form).0

pub hit-requires-clause-closed_facts : goal.hit-requires-clause-closed_facts
hit-requires-clause-closed_facts c = let e = c.args.canon.now in all_closed e.facts (and_parts (are_form_parts e.facts) (is_form_part e.goal) c.requires.form).0

pub hit-requires-clause-closed_goal : goal.hit-requires-clause-closed_goal
hit-requires-clause-closed_goal c = let e = c.args.canon.now in closed e.goal (and_parts (are_form_parts e.facts) (is_form_part e.goal) c.requires.form).1
