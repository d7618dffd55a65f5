-- What the walk's functions promise follows from what the parts of a step promise.
use Rattle.std.proofs.Common.{◌≡◌, ℕ, suc, ◌<◌, length, drop, slice_index_or, Bool, false, if◌then◌else◌, List, [], map, refl, sym, ap, subst, ◌∙◌}
use Rattle.std.specs.Prelude.{Option, Some, None, Result, Ok, Err, OnOk}
use Rattle.tla_ast.specs.declared.place.Place.{Place}
use Rattle.tla_ast.specs.declared.unit.Step.{Step as source_step, out-Step}
use Rattle.tla_ast.specs.declared.unit.Proof.{Proof as source}
use Rattle.plain_syntax.specs.Plain.{Move as move}
use Rattle.plain_syntax.specs.Syntax.{move_of}
use Rattle.proof_contexts.specs.declared.leaf.Leaf.{Leaf}
use Rattle.proof_contexts.specs.Steps.{Proof}
use Rattle.proof_contexts.specs.Contexts.{Context}
use Rattle.proof_leaves.specs.declared.step.Move.{Move}
use Rattle.proof_leaves.specs.declared.step.Claim.{Claim}
use Rattle.proof_leaves.specs.Shown.{step_of}
use Rattle.usable_facts.specs.Proofs.{acts}
use Rattle.theorem_leaves.specs.declared.step.Written.{Written}
use Rattle.theorem_leaves.specs.declared.step.Written.TheVariants.{Claimed, Moves}
use Rattle.theorem_leaves.specs.Acts.{acts_of, is_qed, ends}
use Rattle.theorem_leaves.specs.declared.walk.Walker.{Walker}
use Rattle.theorem_leaves.specs.declared.walk.Stand.{Stand}
use Rattle.theorem_leaves.proofs.Walking.{rest-from}
use Rattle.theorem_leaves.specs.Visits.{state_of, act_all, by_move, visit_all}
use Rattle.theorem_leaves.specs.Visits.State.{going}
use Rattle.theorem_leaves.specs.Walks.{table, means, cite, entries, proof_at, stand_of, MakesAll, Claims, Visits}

pub on-ok : {T E : Type 0} {A B : Type 0} (r : Result T E) → (A → B) → OnOk r A → OnOk r B
on-ok (Ok t) f h = f h
on-ok (Err e) f h = h

module _ (w : Walker) where
  not-qed : (q : Place) (m : move) (l : Option ℕ) (p : Proof) (k : ℕ) (c : Context) (ls : List Leaf) → ends m ≡ false
      → by_move (table w) (means w) (cite w) (entries w) q m l p k c ls ≡ act_all (table w) (means w) (cite w) (entries w) q (acts (means w) (cite w) (entries w) l m p) (going k c ls)
  not-qed q move.qed l p k c ls h = cc
  not-qed q (move.assert s) l p k c ls h = refl
  not-qed q (move.case t) l p k c ls h = refl
  not-qed q (move.suffices s) l p k c ls h = refl
  not-qed q (move.have t) l p k c ls h = refl
  not-qed q (move.take gs) l p k c ls h = refl
  not-qed q (move.witness ts) l p k c ls h = refl
  not-qed q (move.pick gs t) l p k c ls h = refl
  not-qed q (move.define ds) l p k c ls h = refl
  not-qed q (move.add fs ds) l p k c ls h = refl
  not-qed q (move.hide fs ds) l p k c ls h = refl

  -- what a written step promises of a step of the source
  abbrev Acts : source_step → Written → Type 0
  Acts x v = (l : Option ℕ) (q : Proof) → acts_of l v q ≡ acts (means w) (cite w) (entries w) l (move_of (out-Step x).kind) q

  pub step-made : (x : source_step) (n : ℕ) (s : Stand) (v : Written) (xs ys : List Move) (on : Bool) (c d : Context) (ls ms : List Leaf)
      → s ≡ stand_of n x → v ≡ Moves xs → ys ≡ xs → is_qed v ≡ ends (move_of (out-Step x).kind) → Acts x v → MakesAll w s ys c ls on d ms
      → Visits w x n c ls (if on then Some s.next else None) d ms
  step-made x n s v xs ys on c d ls ms e v-is y q a made =
      let o = stand_of n x in
      let p = proof_at w o.place o.first (out-Step x).proof in
      not-qed o.place (move_of (out-Step x).kind) o.label p o.next c ls (sym q ∙ ap is_qed v-is)
      ∙ ap (λ zs. act_all (table w) (means w) (cite w) (entries w) o.place zs (going o.next c ls)) (sym (a o.label p) ∙ ap (λ u. acts_of o.label u p) v-is ∙ ap (map (step_of o.label)) (sym y))
      ∙ subst (λ s. MakesAll w s ys c ls on d ms) e made
      ∙ ap (λ (s : Stand). state_of (if on then Some s.next else None) d ms) (sym e)

  pub step-claimed : (x : source_step) (n : ℕ) (s : Stand) (v : Written) (y : Claim) (c d : Context) (ls ms : List Leaf)
      → s ≡ stand_of n x → v ≡ Claimed y → is_qed v ≡ ends (move_of (out-Step x).kind) → Acts x v → Claims w s y (out-Step x).proof c ls d ms
      → Visits w x n c ls (Some s.next) d ms
  step-claimed x n s v y c d ls ms e v-is q a made =
      let o = stand_of n x in
      let p = proof_at w o.place o.first (out-Step x).proof in
      not-qed o.place (move_of (out-Step x).kind) o.label p o.next c ls (sym q ∙ ap is_qed v-is)
      ∙ ap (λ zs. act_all (table w) (means w) (cite w) (entries w) o.place zs (going o.next c ls)) (sym (a o.label p) ∙ ap (λ u. acts_of o.label u p) v-is)
      ∙ subst (λ s. Claims w s y (out-Step x).proof c ls d ms) e made
      ∙ ap (λ (s : Stand). going s.next d ms) (sym e)

  -- the steps of a proof, from a place on
  pub visits-next : (xs : List source_step) (i j : ℕ) (x : source_step) (n : ℕ) (next : Option ℕ) (c d : Context) (ls ms : List Leaf) → j ≡ suc i → i < length xs → x ≡ slice_index_or xs i x → Visits w x n c ls next d ms
      → visit_all (table w) (means w) (cite w) (entries w) (drop i xs) (going n c ls) ≡ visit_all (table w) (means w) (cite w) (entries w) (drop j xs) (state_of next d ms)
  visits-next xs i j x n next c d ls ms e h s v =
      ap (λ ys. visit_all (table w) (means w) (cite w) (entries w) ys (going n c ls)) (rest-from xs i j x e h s) ∙ ap (visit_all (table w) (means w) (cite w) (entries w) (drop j xs)) v

pub none-of : (o : Option ℕ) → ((n : ℕ) → o ≡ Some n → ⊥) → o ≡ None
none-of None h = refl
none-of (Some n) h = absurd (h n refl)
