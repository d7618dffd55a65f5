-- What the functions that look for citations do: old are the keys before, new those after.
use Rattle.std.specs.Prelude.{◌≡◌, ℕ, Bool, not, List, ◌++◌, map}
use Rattle.tla_ast.specs.declared.unit.Fact.{Fact as source_fact}
use Rattle.tla_ast.specs.declared.unit.Step.{Step as source_step, out-Step}
use Rattle.tla_ast.specs.declared.unit.Proof.{Proof as source}
use Rattle.symbol_table.specs.Symbols.{symbol_at}
use Rattle.plain_syntax.specs.Syntax.{fact_of, move_of}
use Rattle.plain_syntax.specs.Syntax.{proof_of as plain_proof}
use Rattle.proof_contexts.specs.Expansion.{has_number}
use Rattle.usable_facts.specs.Proofs.{hidden}
use Rattle.usable_facts.specs.Theorems.{chosen_keys}
use Rattle.theorem_leaves.specs.Homes.{means, entries}
use Rattle.theorem_leaves.specs.declared.citations.Citations.{Citations}
use Rattle.theorem_leaves.specs.Citations.{is_qed, step_keys, keys_in, keys_in_all}

module _ (w : Citations) where
  -- those that are theorems' are behind the others
  abbrev pub Adds : List ℕ → List ℕ → List ℕ → Type 0
  Adds keys old new = new ≡ old ++ chosen_keys (has_number w.theorems.now.keys) keys

  abbrev pub CitesFacts : List source_fact → List ℕ → List ℕ → Type 0
  CitesFacts fs = Adds (hidden (means w.home) (symbol_at w.outline.now) (entries w.home) (map fact_of fs))

  abbrev pub CitesStep : source_step → List ℕ → List ℕ → Type 0
  CitesStep x =
      let y = out-Step x in
      Adds (step_keys (means w.home) (symbol_at w.outline.now) (entries w.home) (move_of y.kind)
      (keys_in (means w.home) (symbol_at w.outline.now) (entries w.home) (plain_proof y.proof)))

  abbrev pub CitesAll : List source_step → List ℕ → List ℕ → Type 0
  CitesAll xs = Adds (keys_in_all (means w.home) (symbol_at w.outline.now) (entries w.home) xs)

  abbrev pub Cites : source → List ℕ → List ℕ → Type 0
  Cites x = Adds (keys_in (means w.home) (symbol_at w.outline.now) (entries w.home) (plain_proof x))

-- whether a step is not QED
abbrev pub goes_on : source_step → Bool
goes_on x = not (is_qed (move_of (out-Step x).kind))
