-- Citations in proofs of the source, form by form.
use Rattle.std.proofs.Common.{◌≡◌, ℕ, ◌+◌, ◌<◌, Bool, true, false, if◌then◌else◌, List, [], ◌∷◌, ◌++◌, map, drop, length, slice_index_or, append_assoc, refl, sym, ap, ◌∙◌}
use Rattle.std.specs.Prelude.{Option, not}
use Rattle.tla_ast.specs.declared.place.Place.{Place}
use Rattle.tla_ast.specs.declared.tree.Decl.{Decl}
use Rattle.tla_ast.specs.declared.unit.Fact.{Fact as source_fact}
use Rattle.tla_ast.specs.declared.unit.Step.{Step as written, out-Step}
use Rattle.tla_ast.specs.declared.unit.Proof.{Proof as source, out-Proof, roll-Proof, roll-out-Proof}
use Rattle.tla_ast.specs.declared.unit.Proof.TheFolds.{fold-roll-Proof, fold_out-Step}
use Rattle.tla_ast.specs.declared.unit.Proof.TheOpen.{Proof-F}
use Rattle.tla_ast.specs.declared.unit.Proof.TheVariants as source
use Rattle.symbol_table.specs.declared.entry.Entry.{Entry}
use Rattle.plain_syntax.specs.Plain.{Steps}
use Rattle.plain_syntax.specs.Plain.Steps.{end_steps, step}
use Rattle.plain_syntax.specs.Syntax.{proof_of as plain_proof, proof_step, step_step, fact_of, move_of, joined}
use Rattle.usable_facts.specs.Proofs.{hidden}
use Rattle.usable_facts.specs.Theorems.{chosen_keys}
use Rattle.theorem_leaves.specs.Citations.{is_qed, before_qed, step_keys, keys_in, keys_in_steps, keys_in_all}
use Rattle.theorem_leaves.proofs.Proofs.{each, is-by, is-steps}
use Rattle.theorem_leaves.proofs.Runs.{next-one}

-- ---- keys of theorems alone

chosen-append : (p : ℕ → Bool) (xs ys : List ℕ) → chosen_keys p (xs ++ ys) ≡ chosen_keys p xs ++ chosen_keys p ys
chosen-append p [] ys = refl
chosen-append p (x ∷ xs) ys = by (p x) (chosen-append p xs ys)
  where
    by : (b : Bool) → chosen_keys p (xs ++ ys) ≡ chosen_keys p xs ++ chosen_keys p ys
        → (if b then x ∷ chosen_keys p (xs ++ ys) else chosen_keys p (xs ++ ys)) ≡ (if b then x ∷ chosen_keys p xs else chosen_keys p xs) ++ chosen_keys p ys
    by true e = ap (λ l. x ∷ l) e
    by false e = e

-- ---- proofs and steps

is-step : (s : written) → each s ≡ step (out-Step s).place (out-Step s).level (out-Step s).label (move_of (out-Step s).kind) (plain_proof (out-Step s).proof)
unfolding plain_proof each
is-step s = fold_out-Step _ _ proof_step step_step s

module _ (means : Place → Option ℕ) (cite : Place → Option ℕ) (entries : List Entry) where
  steps-keys : (ss : List written) → keys_in_steps means cite entries (joined end_steps (map each ss)) ≡ keys_in_all means cite entries ss
  steps-keys [] = refl
  steps-keys (s ∷ ss) =
      ap (λ (f : Steps → Steps). keys_in_steps means cite entries (f (joined end_steps (map each ss)))) (is-step s)
      ∙ ap (λ l. step_keys means cite entries (move_of (out-Step s).kind) (keys_in means cite entries (plain_proof (out-Step s).proof)) ++ before_qed (move_of (out-Step s).kind) l) (steps-keys ss)

  pub keys-by : (p : source) (at : Place) (only : _) (fs : List source_fact) (ds : List Decl) → p ≡ source.By at only fs ds → keys_in means cite entries (plain_proof p) ≡ hidden means cite entries (map fact_of fs)
  keys-by p at only fs ds e = ap (keys_in means cite entries) (is-by p at only fs ds e)

  pub keys-steps : (p : source) (ss : List written) → p ≡ source.Steps ss → keys_in means cite entries (plain_proof p) ≡ keys_in_all means cite entries ss
  keys-steps p ss e = ap (keys_in means cite entries) (is-steps p ss e) ∙ steps-keys ss

  pub keys-none : (p : source) → ((at : Place) (only : _) (fs : List source_fact) (ds : List Decl) → p ≡ source.By at only fs ds → ⊥) → ((ss : List written) → p ≡ source.Steps ss → ⊥)
      → keys_in means cite entries (plain_proof p) ≡ []
  unfolding plain_proof
  keys-none p by some =
      (elim (out-Proof p) as (λ x. out-Proof p ≡ x → keys_in means cite entries (plain_proof p) ≡ []) [
        | Proof-F.By at only fs ds ↦ λ e. absurd (by at only fs ds (sym (roll-out-Proof p) ∙ ap roll-Proof e ∙ source.rolls-By at only fs ds))
        | Proof-F.Steps ss ↦ λ e. absurd (some ss (sym (roll-out-Proof p) ∙ ap roll-Proof e ∙ source.rolls-Steps ss))
        | _ ↦ λ e. ap (keys_in means cite entries) (ap plain_proof (sym (roll-out-Proof p) ∙ ap roll-Proof e) ∙ fold-roll-Proof _ _ proof_step step_step _)
      ]) refl

  -- the keys of steps, one after another
  abbrev One : written → List ℕ
  One s = step_keys means cite entries (move_of (out-Step s).kind) (keys_in means cite entries (plain_proof (out-Step s).proof))

  pub steps-more : (p : ℕ → Bool) (ss : List written) (now new : List ℕ) (i : ℕ) (s : written) (all : List ℕ)
      → now ++ chosen_keys p (keys_in_all means cite entries (drop i ss)) ≡ all → i < length ss → s ≡ slice_index_or ss i s → not (is_qed (move_of (out-Step s).kind)) ≡ true
      → new ≡ now ++ chosen_keys p (One s)
      → new ++ chosen_keys p (keys_in_all means cite entries (drop (i + 1) ss)) ≡ all
  steps-more p ss now new i s all before within is on more =
      ap (λ l. l ++ chosen_keys p rest) more
      ∙ append_assoc now (chosen_keys p (One s)) (chosen_keys p rest)
      ∙ ap (λ l. now ++ l) (sym (chosen-append p (One s) rest))
      ∙ ap (λ l. now ++ chosen_keys p (One s ++ l)) (going (is_qed (move_of (out-Step s).kind)) on)
      ∙ ap (λ l. now ++ chosen_keys p (keys_in_all means cite entries l)) (sym (next-one ss i s within is))
      ∙ before
    where
      rest : List ℕ
      rest = keys_in_all means cite entries (drop (i + 1) ss)

      going : (b : Bool) → not b ≡ true → rest ≡ (if b then [] else rest)
      going true h = cc
      going false h = refl
