-- Proofs of the source as plain data, form by form, and the walk over them.
use Rattle.std.proofs.Common.{◌≡◌, ℕ, Bool, List, [], ◌∷◌, length, map, drop, fold, refl, sym, ap, ◌∙◌}
use Rattle.tla_ast.specs.declared.place.Place.{Place}
use Rattle.tla_ast.specs.declared.tree.Decl.{Decl}
use Rattle.tla_ast.specs.declared.unit.Fact.{Fact}
use Rattle.tla_ast.specs.declared.unit.Step.{Step, out-Step, fold-Step}
use Rattle.tla_ast.specs.declared.unit.Proof.{Proof, out-Proof, roll-Proof, roll-out-Proof}
use Rattle.tla_ast.specs.declared.unit.Proof.TheFolds.{fold-roll-Proof, fold_out-Step}
use Rattle.tla_ast.specs.declared.unit.Proof.TheOpen.{Proof-F}
use Rattle.tla_ast.specs.declared.unit.Proof.TheVariants as proof
use Rattle.plain_syntax.specs.Plain as plain
use Rattle.plain_syntax.specs.Plain.{Steps}
use Rattle.plain_syntax.specs.Plain.Proof.{by_facts, steps}
use Rattle.plain_syntax.specs.Plain.Steps.{end_steps, step}
use Rattle.plain_syntax.specs.Syntax.{proof_of, proof_step, step_step, fact_of, move_of, joined}
use Rattle.module_scope.specs.Scope.{Scope}
use Rattle.module_scope.specs.Names.{Book, Walk, scope_of, left, with_more, unseen_in, proof_names, steps_names}
use Rattle.module_scope.specs.Visits.{step_names}

unfoldable steps_of : Step → Steps → Steps
steps_of = fold-Step plain.Proof (Steps → Steps) proof_step step_step

pub is-by : (p : Proof) (at : Place) (only : Bool) (fs : List Fact) (ds : List Decl) → p ≡ proof.By at only fs ds → proof_of p ≡ by_facts at only (map fact_of fs) ds
unfolding proof_of
is-by p at only fs ds e = ap proof_of (e ∙ sym (proof.rolls-By at only fs ds)) ∙ fold-roll-Proof _ _ proof_step step_step (Proof-F.By at only fs ds)

is-steps : (p : Proof) (ss : List Step) → p ≡ proof.Steps ss → proof_of p ≡ steps (joined end_steps (map steps_of ss))
unfolding proof_of steps_of
is-steps p ss e = ap proof_of (e ∙ sym (proof.rolls-Steps ss)) ∙ fold-roll-Proof _ _ proof_step step_step (Proof-F.Steps ss)

is-step : (s : Step) → steps_of s ≡ step (out-Step s).place (out-Step s).level (out-Step s).label (move_of (out-Step s).kind) (proof_of (out-Step s).proof)
unfolding proof_of steps_of
is-step s = fold_out-Step _ _ proof_step step_step s

steps-all : (ss : List Step) (b : Book) → steps_names (joined end_steps (map steps_of ss)) b ≡ fold step_names b ss
steps-all [] b = refl
steps-all (s ∷ ss) b = ap (λ (f : Steps → Steps). steps_names (f (joined end_steps (map steps_of ss))) b) (is-step s) ∙ steps-all ss (step_names b s)

pub steps-walk : (p : Proof) (ss : List Step) (b : Book) → p ≡ proof.Steps ss → proof_names (proof_of p) b ≡ left (length (scope_of b)) (fold step_names b ss)
steps-walk p ss b e = ap (λ q. proof_names q b) (is-steps p ss e) ∙ ap (left (length (scope_of b))) (steps-all ss b)

pub other-walk : (p : Proof) (b : Book) → ((at : Place) (only : Bool) (fs : List Fact) (ds : List Decl) → p ≡ proof.By at only fs ds → ⊥) → ((ss : List Step) → p ≡ proof.Steps ss → ⊥) → b ≡ proof_names (proof_of p) b
unfolding proof_of
other-walk p b by none =
    (elim (out-Proof p) as (λ x. out-Proof p ≡ x → b ≡ proof_names (proof_of p) b) [
      | Proof-F.By at only fs ds ↦ λ e. absurd (by at only fs ds (sym (roll-out-Proof p) ∙ ap roll-Proof e ∙ proof.rolls-By at only fs ds))
      | Proof-F.Steps ss ↦ λ e. absurd (none ss (sym (roll-out-Proof p) ∙ ap roll-Proof e ∙ proof.rolls-Steps ss))
      | _ ↦ λ e. sym (ap (λ q. proof_names q b) (ap proof_of (sym (roll-out-Proof p) ∙ ap roll-Proof e) ∙ fold-roll-Proof _ _ proof_step step_step _))
    ]) refl

-- what two walks did, of which the second does not see what the first declares
pub unseen-is : (f g : Walk) (b c l d e : Book) (n : ℕ) (more : Scope) → n ≡ length (scope_of b) → c ≡ f b → l ≡ left n c → more ≡ drop n (scope_of c) → d ≡ g l → e ≡ with_more more d → e ≡ unseen_in f g b
unseen-is f g b c l d e n more m first cut names second end =
    end ∙ (λ i. with_more (names i) ((second ∙ ap g cut) i)) ∙ (λ i. with_more (drop (m i) (scope_of (first i))) (g (left (m i) (first i))))
