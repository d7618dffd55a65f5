-- Proofs of the source as plain data, form by form, and the walk over their steps.
use Rattle.std.proofs.Common.{◌≡◌, ℕ, suc, ◌+◌, List, [], ◌∷◌, ◌++◌, map, append_assoc, refl, sym, ap, ◌∙◌}
use Rattle.std.specs.Prelude.{Option, Some, None}
use Rattle.tla_ast.specs.declared.place.Place.{Place}
use Rattle.tla_ast.specs.declared.tree.Decl.{Decl}
use Rattle.tla_ast.specs.declared.unit.Fact.{Fact as source_fact}
use Rattle.tla_ast.specs.declared.unit.Step.{Step as written, out-Step, fold-Step}
use Rattle.tla_ast.specs.declared.unit.Proof.{Proof as source, out-Proof, roll-Proof, roll-out-Proof}
use Rattle.tla_ast.specs.declared.unit.Proof.TheFolds.{fold-roll-Proof, fold_out-Step}
use Rattle.tla_ast.specs.declared.unit.Proof.TheOpen.{Proof-F}
use Rattle.tla_ast.specs.declared.unit.Proof.TheVariants as source
use Rattle.obligation.specs.declared.obligation.Definition.{Definition}
use Rattle.symbol_table.specs.declared.entry.Entry.{Entry}
use Rattle.plain_syntax.specs.Plain as plain
use Rattle.plain_syntax.specs.Plain.{Steps, Move as move}
use Rattle.plain_syntax.specs.Plain.Proof.{missing, obvious, omitted, by_facts, steps}
use Rattle.plain_syntax.specs.Plain.Steps.{end_steps, step}
use Rattle.plain_syntax.specs.Syntax.{proof_of as plain_proof, proof_step, step_step, fact_of, move_of, joined}
use Rattle.proof_contexts.specs.declared.leaf.Leaf.{Leaf}
use Rattle.proof_contexts.specs.declared.leaf.LeafKind.TheVariants as kind
use Rattle.proof_contexts.specs.Steps.{Step, Steps as chain}
use Rattle.proof_contexts.specs.Contexts.{Context, given, after}
use Rattle.proof_contexts.specs.Leaves.{a_leaf, step_leaves, own_leaves, sub_leaves}
use Rattle.usable_facts.specs.Keys.{label_key}
use Rattle.usable_facts.specs.Proofs.{count, count_steps, acts, nexts, proof_of, steps_of}
use Rattle.theorem_leaves.proofs.Walking.{acts-ended}
use Rattle.theorem_leaves.specs.Visits.{count_all, State, act_all, by_move, visit_all, finished}
use Rattle.theorem_leaves.specs.Visits.State.{going, ended}

unfoldable pub each : written → Steps → Steps
each = fold-Step plain.Proof (Steps → Steps) proof_step step_step

pub is-obvious : (p : source) (at : Place) → p ≡ source.Obvious at → plain_proof p ≡ obvious at
unfolding plain_proof
is-obvious p at e = ap plain_proof (e ∙ sym (source.rolls-Obvious at)) ∙ fold-roll-Proof _ _ proof_step step_step (Proof-F.Obvious at)

pub is-omitted : (p : source) (at : Place) → p ≡ source.Omitted at → plain_proof p ≡ omitted at
unfolding plain_proof
is-omitted p at e = ap plain_proof (e ∙ sym (source.rolls-Omitted at)) ∙ fold-roll-Proof _ _ proof_step step_step (Proof-F.Omitted at)

pub is-missing : (p : source) → p ≡ source.Missing → plain_proof p ≡ missing
unfolding plain_proof
is-missing p e = ap plain_proof (e ∙ sym source.rolls-Missing) ∙ fold-roll-Proof _ _ proof_step step_step Proof-F.Missing

pub is-by : (p : source) (at : Place) (only : _) (fs : List source_fact) (ds : List Decl) → p ≡ source.By at only fs ds → plain_proof p ≡ by_facts at only (map fact_of fs) ds
unfolding plain_proof
is-by p at only fs ds e = ap plain_proof (e ∙ sym (source.rolls-By at only fs ds)) ∙ fold-roll-Proof _ _ proof_step step_step (Proof-F.By at only fs ds)

pub is-steps : (p : source) (ss : List written) → p ≡ source.Steps ss → plain_proof p ≡ steps (joined end_steps (map each ss))
unfolding plain_proof each
is-steps p ss e = ap plain_proof (e ∙ sym (source.rolls-Steps ss)) ∙ fold-roll-Proof _ _ proof_step step_step (Proof-F.Steps ss)

is-step : (s : written) → each s ≡ step (out-Step s).place (out-Step s).level (out-Step s).label (move_of (out-Step s).kind) (plain_proof (out-Step s).proof)
unfolding plain_proof each
is-step s = fold_out-Step _ _ proof_step step_step s

-- ---- how many steps

count-each : (ss : List written) → count_steps (joined end_steps (map each ss)) ≡ count_all ss
count-each [] = refl
count-each (s ∷ ss) =
    ap (λ (f : Steps → Steps). count_steps (f (joined end_steps (map each ss)))) (is-step s)
    ∙ ap (λ n. suc (count (plain_proof (out-Step s).proof) + n)) (count-each ss)

pub count-in-steps : (p : source) (ss : List written) → p ≡ source.Steps ss → count_all ss ≡ count (plain_proof p)
count-in-steps p ss e = sym (ap count (is-steps p ss e) ∙ count-each ss)

pub count-in-none : (p : source) → ((ss : List written) → p ≡ source.Steps ss → ⊥) → 0 ≡ count (plain_proof p)
unfolding plain_proof
count-in-none p none =
    (elim (out-Proof p) as (λ x. out-Proof p ≡ x → 0 ≡ count (plain_proof p)) [
      | Proof-F.Steps ss ↦ λ e. absurd (none ss (sym (roll-out-Proof p) ∙ ap roll-Proof e ∙ source.rolls-Steps ss))
      | _ ↦ λ e. sym (ap count (ap plain_proof (sym (roll-out-Proof p) ∙ ap roll-Proof e) ∙ fold-roll-Proof _ _ proof_step step_step _))
    ]) refl

-- ---- the walk

module _ (table : List Definition) (means : Place → Option ℕ) (cite : Place → Option ℕ) (entries : List Entry) where
  pub visits-ended : (xs : List written) (ls : List Leaf) → visit_all table means cite entries xs (ended ls) ≡ ended ls
  visits-ended [] ls = refl
  visits-ended (x ∷ xs) ls = visits-ended xs ls

  -- steps over cores, and what is behind them
  acts-leaves : (g : State → List Leaf) (k : ℕ) (rest : chain) → ((ls : List Leaf) → g (ended ls) ≡ ls) → ((c : Context) (ls : List Leaf) → g (going k c ls) ≡ ls ++ step_leaves table rest c)
      → (q : Place) (xs : List Step) (c : Context) (ls : List Leaf) → ls ++ step_leaves table (nexts q xs rest) c ≡ g (act_all table means cite entries q xs (going k c ls))
  acts-leaves g k rest ge gg q [] c ls = sym (gg c ls)
  acts-leaves g k rest ge gg q (a ∷ xs) c ls = by-after (after table a c) (λ d ms. acts-leaves g k rest ge gg q xs d ms)
    where
      own : List Leaf
      own = sub_leaves table a c ++ own_leaves table q a c

      by-after : (o : Option Context)
          → ((d : Context) (ms : List Leaf) → ms ++ step_leaves table (nexts q xs rest) d ≡ g (act_all table means cite entries q xs (going k d ms)))
          → ls ++ (own ++ given o (a_leaf q kind.Shape ∷ []) (λ d. step_leaves table (nexts q xs rest) d))
          ≡ g (act_all table means cite entries q xs (given o (ended ((ls ++ own) ++ a_leaf q kind.Shape ∷ [])) (λ d. going k d (ls ++ own))))
      by-after None later = sym (append_assoc ls own (a_leaf q kind.Shape ∷ [])) ∙ sym (ge _) ∙ ap g (sym (acts-ended table means cite entries q xs _))
      by-after (Some d) later = sym (append_assoc ls own (step_leaves table (nexts q xs rest) d)) ∙ later d (ls ++ own)

  pub steps-leaves : (ss : List written) (p : Place) (n : ℕ) (c : Context) (ls : List Leaf)
      → ls ++ step_leaves table (steps_of means cite entries p n (joined end_steps (map each ss))) c ≡ finished p (visit_all table means cite entries ss (going n c ls))
  steps-leaves [] p n c ls = refl
  steps-leaves (x ∷ ss) p n c ls =
      ap (λ (f : Steps → Steps). ls ++ step_leaves table (steps_of means cite entries p n (f (joined end_steps (map each ss)))) c) (is-step x)
      ∙ go (λ d ms. sym (steps-leaves ss p (suc n + count (plain_proof (out-Step x).proof)) d ms)) (move_of (out-Step x).kind)
    where
      own : plain.Proof
      own = plain_proof (out-Step x).proof

      k : ℕ
      k = suc n + count own

      here : chain
      here = steps_of means cite entries p k (joined end_steps (map each ss))

      Later : Type 0
      Later = (c : Context) (ls : List Leaf) → finished p (visit_all table means cite entries ss (going k c ls)) ≡ ls ++ step_leaves table here c

      by-acts : Later → (xs : List Step) → ls ++ step_leaves table (nexts (out-Step x).place xs here) c ≡ finished p (visit_all table means cite entries ss (act_all table means cite entries (out-Step x).place xs (going k c ls)))
      by-acts there xs = acts-leaves (λ s. finished p (visit_all table means cite entries ss s)) k here (λ ls. ap (finished p) (visits-ended ss ls)) there (out-Step x).place xs c ls

      go : Later → (m : move) → ls ++ step_leaves table (steps_of means cite entries p n (step (out-Step x).place (out-Step x).level (out-Step x).label m own (joined end_steps (map each ss)))) c
          ≡ finished p (visit_all table means cite entries ss (by_move table means cite entries (out-Step x).place m (label_key n (out-Step x).label) (proof_of means cite entries (out-Step x).place (suc n) own) k c ls))
      go there move.qed = ap (finished p) (sym (visits-ended ss _))
      go there (move.assert s) = by-acts there (acts means cite entries (label_key n (out-Step x).label) (move.assert s) (proof_of means cite entries (out-Step x).place (suc n) own))
      go there (move.case t) = by-acts there (acts means cite entries (label_key n (out-Step x).label) (move.case t) (proof_of means cite entries (out-Step x).place (suc n) own))
      go there (move.suffices s) = by-acts there (acts means cite entries (label_key n (out-Step x).label) (move.suffices s) (proof_of means cite entries (out-Step x).place (suc n) own))
      go there (move.have t) = by-acts there (acts means cite entries (label_key n (out-Step x).label) (move.have t) (proof_of means cite entries (out-Step x).place (suc n) own))
      go there (move.take gs) = by-acts there (acts means cite entries (label_key n (out-Step x).label) (move.take gs) (proof_of means cite entries (out-Step x).place (suc n) own))
      go there (move.witness ts) = by-acts there (acts means cite entries (label_key n (out-Step x).label) (move.witness ts) (proof_of means cite entries (out-Step x).place (suc n) own))
      go there (move.pick gs t) = by-acts there (acts means cite entries (label_key n (out-Step x).label) (move.pick gs t) (proof_of means cite entries (out-Step x).place (suc n) own))
      go there (move.define ds) = by-acts there (acts means cite entries (label_key n (out-Step x).label) (move.define ds) (proof_of means cite entries (out-Step x).place (suc n) own))
      go there (move.add fs ds) = by-acts there (acts means cite entries (label_key n (out-Step x).label) (move.add fs ds) (proof_of means cite entries (out-Step x).place (suc n) own))
      go there (move.hide fs ds) = by-acts there (acts means cite entries (label_key n (out-Step x).label) (move.hide fs ds) (proof_of means cite entries (out-Step x).place (suc n) own))
