-- Proofs of the source as plain data, form by form, and the walk over them.
use Rattle.std.proofs.Common.{◌≡◌, ℕ, Bool, false, ◌||◌, List, [], ◌∷◌, length, map, refl, sym, ap, subst, ◌∙◌}
use Rattle.std.specs.Prelude.{Result, Ok, Err, IsErrAnd}
use Rattle.tla_ast.specs.declared.place.Place.{Place}
use Rattle.tla_ast.specs.declared.tree.Decl.{Decl}
use Rattle.tla_ast.specs.declared.unit.Fact.{Fact as source_fact}
use Rattle.tla_ast.specs.declared.unit.Step.{Step, out-Step, fold-Step}
use Rattle.tla_ast.specs.declared.unit.Proof.{Proof, out-Proof, roll-Proof, roll-out-Proof}
use Rattle.tla_ast.specs.declared.unit.Proof.TheFolds.{fold-roll-Proof, fold_out-Step}
use Rattle.tla_ast.specs.declared.unit.Proof.TheOpen.{Proof-F}
use Rattle.tla_ast.specs.declared.unit.Proof.TheVariants as proof
use Rattle.plain_syntax.specs.Plain as plain
use Rattle.plain_syntax.specs.Plain.{Steps}
use Rattle.plain_syntax.specs.Plain.Proof.{by_facts, steps}
use Rattle.plain_syntax.specs.Plain.Steps.{end_steps, step}
use Rattle.plain_syntax.specs.Syntax.{proof_of, proof_step, step_step, fact_of, move_of, joined}
use Rattle.proof_outline.specs.Outline.{Name, State, Stop, Walk, and_then, seen_of, next_of, left, has_step, have_step, fresh, entered, facts_names, move_names, proof_names, steps_names}
use Rattle.proof_outline.specs.declared.walk.Stop.{Stop as stopped}
use Rattle.proof_outline.specs.declared.walk.Stop.TheVariants as stop
use Rattle.proof_outline.specs.Visits.{IsStop, Does, each_step, any_step, is_step_of}

unfoldable steps_of : Step → Steps → Steps
steps_of = fold-Step plain.Proof (Steps → Steps) proof_step step_step

pub is-by : (p : Proof) (at : Place) (only : Bool) (fs : List source_fact) (ds : List Decl) → p ≡ proof.By at only fs ds → proof_of p ≡ by_facts at only (map fact_of fs) ds
unfolding proof_of
is-by p at only fs ds e = ap proof_of (e ∙ sym (proof.rolls-By at only fs ds)) ∙ fold-roll-Proof _ _ proof_step step_step (Proof-F.By at only fs ds)

is-steps : (p : Proof) (ss : List Step) → p ≡ proof.Steps ss → proof_of p ≡ steps (joined end_steps (map steps_of ss))
unfolding proof_of steps_of
is-steps p ss e = ap proof_of (e ∙ sym (proof.rolls-Steps ss)) ∙ fold-roll-Proof _ _ proof_step step_step (Proof-F.Steps ss)

is-step : (s : Step) → steps_of s ≡ step (out-Step s).place (out-Step s).level (out-Step s).label (move_of (out-Step s).kind) (proof_of (out-Step s).proof)
unfolding proof_of steps_of
is-step s = fold_out-Step _ _ proof_step step_step s

-- ---- names of steps

have-all : (a : Name) (ss : List Step) → have_step a (joined end_steps (map steps_of ss)) ≡ any_step a ss
have-all a [] = refl
have-all a (s ∷ ss) =
    ap (λ (f : Steps → Steps). have_step a (f (joined end_steps (map steps_of ss)))) (is-step s)
    ∙ ap (λ b. is_step_of a s || (has_step a (proof_of (out-Step s).proof) || b)) (have-all a ss)

pub has-steps : (a : Name) (p : Proof) (ss : List Step) → p ≡ proof.Steps ss → any_step a ss ≡ has_step a (proof_of p)
has-steps a p ss e = sym (ap (has_step a) (is-steps p ss e) ∙ have-all a ss)

pub has-none : (a : Name) (p : Proof) → ((ss : List Step) → p ≡ proof.Steps ss → ⊥) → false ≡ has_step a (proof_of p)
unfolding proof_of
has-none a p none =
    (elim (out-Proof p) as (λ x. out-Proof p ≡ x → false ≡ has_step a (proof_of p)) [
      | Proof-F.Steps ss ↦ λ e. absurd (none ss (sym (roll-out-Proof p) ∙ ap roll-Proof e ∙ proof.rolls-Steps ss))
      | _ ↦ λ e. sym (ap (has_step a) (ap proof_of (sym (roll-out-Proof p) ∙ ap roll-Proof e) ∙ fold-roll-Proof _ _ proof_step step_step _))
    ]) refl

-- ---- the walk

assoc : (r : Result State Stop) (f g : Walk) → and_then (and_then r f) g ≡ and_then r (λ x. and_then (f x) g)
assoc (Ok a) f g = refl
assoc (Err e) f g = refl

steps-all : (ss : List Step) (first : ℕ) (s : State) → steps_names (joined end_steps (map steps_of ss)) first s ≡ each_step first ss s
steps-all [] first s = refl
steps-all (x ∷ ss) first s =
    let y = out-Step x in
    let m : Walk = move_names (move_of y.kind) in
    let n : Walk = λ t. proof_names (proof_of y.proof) (entered y.level y.label t) in
    let e : Walk = each_step first ss in
    ap (λ (g : Steps → Steps). steps_names (g (joined end_steps (map steps_of ss))) first s) (is-step x)
    ∙ (λ i. and_then (fresh first y.level y.label y.place s) (λ t. and_then (m t) (λ t. and_then (n t) (λ u. steps-all ss first u i))))
    ∙ (λ i. and_then (fresh first y.level y.label y.place s) (λ t. sym (assoc (m t) n e) i))
    ∙ sym (assoc (fresh first y.level y.label y.place s) (λ t. and_then (m t) n) e)

pub steps-walk : (p : Proof) (ss : List Step) (s : State) → p ≡ proof.Steps ss → proof_names (proof_of p) s ≡ and_then (each_step (next_of s) ss s) (λ t. Ok (left (length (seen_of s)) t))
steps-walk p ss s e =
    ap (λ q. proof_names q s) (is-steps p ss e) ∙ ap (λ r. and_then r (λ t. Ok (left (length (seen_of s)) t))) (steps-all ss (next_of s) s)

pub by-walk : (p : Proof) (at : Place) (only : Bool) (fs : List source_fact) (ds : List Decl) (s : State) → p ≡ proof.By at only fs ds → proof_names (proof_of p) s ≡ facts_names (map fact_of fs) s
by-walk p at only fs ds s e = ap (λ q. proof_names q s) (is-by p at only fs ds e)

pub other-walk : (p : Proof) (s : State) → ((at : Place) (only : Bool) (fs : List source_fact) (ds : List Decl) → p ≡ proof.By at only fs ds → ⊥) → ((ss : List Step) → p ≡ proof.Steps ss → ⊥) → proof_names (proof_of p) s ≡ Ok s
unfolding proof_of
other-walk p s by none =
    (elim (out-Proof p) as (λ x. out-Proof p ≡ x → proof_names (proof_of p) s ≡ Ok s) [
      | Proof-F.By at only fs ds ↦ λ e. absurd (by at only fs ds (sym (roll-out-Proof p) ∙ ap roll-Proof e ∙ proof.rolls-By at only fs ds))
      | Proof-F.Steps ss ↦ λ e. absurd (none ss (sym (roll-out-Proof p) ∙ ap roll-Proof e ∙ proof.rolls-Steps ss))
      | _ ↦ λ e. ap (λ q. proof_names q s) (ap proof_of (sym (roll-out-Proof p) ∙ ap roll-Proof e) ∙ fold-roll-Proof _ _ proof_step step_step _)
    ]) refl

-- ---- where a walk stops

stop-after : (r : Result State Stop) (f : Walk) (e : stopped) → IsStop r e → IsStop (and_then r f) e
stop-after r f stop.Memory h = tt
stop-after r f (stop.Again p) h = ap (λ r. and_then r f) h
stop-after r f (stop.Unseen l w p) h = ap (λ r. and_then r f) h

pub err-steps : {A : Type 0} (p : Proof) (ss : List Step) (s after : State) (r : Result A stopped) (e : stopped) → p ≡ proof.Steps ss → IsErrAnd r (λ x. x ≡ e) → IsStop (each_step (next_of s) ss s) e → Does (proof_names (proof_of p) s) r after
err-steps p ss s after (Ok x) e q h k = absurd h
err-steps p ss s after (Err x) e q h k =
    subst (λ d. IsStop d x) (sym (steps-walk p ss s q))
    (stop-after (each_step (next_of s) ss s) (λ t. Ok (left (length (seen_of s)) t)) x (subst (IsStop (each_step (next_of s) ss s)) (sym h) k))

pub ok-steps : (p : Proof) (ss : List Step) (s t after : State) (n : ℕ) → p ≡ proof.Steps ss → each_step (next_of s) ss s ≡ Ok t → n ≡ length (seen_of s) → after ≡ left n t → proof_names (proof_of p) s ≡ Ok after
ok-steps p ss s t after n q h m e =
    steps-walk p ss s q ∙ ap (λ r. and_then r (λ t. Ok (left (length (seen_of s)) t))) h ∙ (λ i. Ok (left (sym m i) t)) ∙ ap Ok (sym e)
