-- What the walk does with one step, with several, and with a proof.
use Rattle.std.proofs.Common.{◌≡◌, ℕ, zero, suc, ◌+◌, ◌<◌, Bool, true, false, if◌then◌else◌, List, [], ◌∷◌, ◌++◌, map, drop, length, slice_index_or, append_assoc, refl, sym, ap, ◌∙◌, arith}
use Rattle.std.specs.Prelude.{Option, Some, None}
use Rattle.std.proofs.lemmas.List.{append-nil}
use Rattle.tla_ast.specs.declared.place.Place.{Place}
use Rattle.obligation.specs.declared.obligation.Definition.{Definition}
use Rattle.symbol_table.specs.declared.entry.Entry.{Entry}
use Rattle.proof_contexts.specs.declared.leaf.Leaf.{Leaf}
use Rattle.proof_contexts.specs.declared.leaf.LeafKind.TheVariants as kind
use Rattle.proof_contexts.specs.Steps.{Proof, Step}
use Rattle.proof_contexts.specs.Contexts.{Context, given, after, inside}
use Rattle.proof_contexts.specs.Leaves.{a_leaf, leaves, own_leaves, sub_leaves}
use Rattle.proof_leaves.specs.declared.step.Move.{Move}
use Rattle.proof_leaves.specs.declared.step.Move.TheVariants as move
use Rattle.proof_leaves.specs.declared.step.Claim.{Claim}
use Rattle.proof_leaves.specs.declared.step.Claim.TheVariants as claim
use Rattle.proof_leaves.specs.Shown.{step_of, claim_of}
use Rattle.proof_leaves.specs.Made as made
use Rattle.proof_leaves.specs.Made.{Made}
use Rattle.theorem_leaves.specs.Visits.{state_of, act, act_all}
use Rattle.theorem_leaves.specs.Visits.State.{going, ended}

-- the rest of a list from a place on
pub rest-from : {A : Type 0} (xs : List A) (i j : ℕ) (x : A) → j ≡ suc i → i < length xs → x ≡ slice_index_or xs i x → drop i xs ≡ x ∷ drop j xs
rest-from [] i j x e h s = absurd (omega arith)
rest-from (y ∷ ys) zero j x e h s = (λ k. sym s k ∷ ys) ∙ ap (λ k. x ∷ drop k (y ∷ ys)) (sym e)
rest-from (y ∷ ys) (suc i) j x e h s = rest-from ys i (suc i) x refl (omega arith) s ∙ ap (λ k. x ∷ drop k (y ∷ ys)) (sym e)

no-sub : (table : List Definition) (l : Option ℕ) (m : Move) (c : Context) → sub_leaves table (step_of l m) c ≡ []
no-sub table l (move.Have f) c = refl
no-sub table l (move.Take x) c = refl
no-sub table l (move.TakeIn x s) c = refl
no-sub table l (move.Witness t) c = refl
no-sub table l (move.WitnessIn t s) c = refl
no-sub table l (move.Define u) c = refl
no-sub table l (move.Use fs u) c = refl
no-sub table l (move.Hide xs u) c = refl

module _ (table : List Definition) (means : Place → Option ℕ) (cite : Place → Option ℕ) (entries : List Entry) where
  -- the state after a step, by what its leaves are and what is after it
  goes : (p : Place) (k : ℕ) (ls sub own : List Leaf) (o : Option Context) → sub ≡ [] → (on : Bool) (d : Context) (ms : List Leaf)
      → ms ≡ ls ++ (own ++ made.ended p o) → o ≡ made.going on d
      → given o (ended ((ls ++ (sub ++ own)) ++ a_leaf p kind.Shape ∷ [])) (λ d. going k d (ls ++ (sub ++ own))) ≡ state_of (if on then Some k else None) d ms
  goes p k ls sub own o s true d ms m a =
      (λ i. given (a i) (ended ((ls ++ (s i ++ own)) ++ a_leaf p kind.Shape ∷ [])) (λ d. going k d (ls ++ (s i ++ own))))
      ∙ ap (λ l. going k d (ls ++ l)) (sym (append-nil own)) ∙ ap (λ l. going k d l) (sym (m ∙ (λ i. ls ++ (own ++ made.ended p (a i)))))
  goes p k ls sub own o s false d ms m a =
      (λ i. given (a i) (ended ((ls ++ (s i ++ own)) ++ a_leaf p kind.Shape ∷ [])) (λ d. going k d (ls ++ (s i ++ own))))
      ∙ ap ended (append_assoc ls own (a_leaf p kind.Shape ∷ [])) ∙ ap ended (sym (m ∙ (λ i. ls ++ (own ++ made.ended p (a i)))))

  pub made-acts : (p : Place) (l : Option ℕ) (m : Move) (k : ℕ) (c d : Context) (ls ms : List Leaf) (on : Bool) → Made table p (step_of l m) c ls on d ms
      → act table means cite entries p (step_of l m) (going k c ls) ≡ state_of (if on then Some k else None) d ms
  made-acts p l m k c d ls ms on h =
      goes p k ls (sub_leaves table (step_of l m) c) (own_leaves table p (step_of l m) c) (after table (step_of l m) c) (no-sub table l m c) on d ms h.0 h.1

  pub acts-ended : (q : Place) (xs : List Step) (ls : List Leaf) → act_all table means cite entries q xs (ended ls) ≡ ended ls
  acts-ended q [] ls = refl
  acts-ended q (a ∷ xs) ls = acts-ended q xs ls

  -- a step with a proof of its own
  claim-leaves : (l : Option ℕ) (x : Claim) (own : Proof) (p : Place) (c : Context) → sub_leaves table (claim_of l x own) c ++ own_leaves table p (claim_of l x own) c ≡ leaves table own (inside table (claim_of l x own) c)
  claim-leaves l (claim.Assert s) own p c = append-nil _
  claim-leaves l (claim.Case f) own p c = append-nil _
  claim-leaves l (claim.Suffices s) own p c = append-nil _
  claim-leaves l (claim.Pick is f) own p c = append-nil _

  pub claimed-acts : (p : Place) (l : Option ℕ) (x : Claim) (own : Proof) (k : ℕ) (c e d : Context) (ls ms : List Leaf)
      → e ≡ inside table (claim_of l x own) c → ms ≡ ls ++ leaves table own e → after table (claim_of l x own) c ≡ Some d
      → act table means cite entries p (claim_of l x own) (going k c ls) ≡ going k d ms
  claimed-acts p l x own k c e d ls ms i m a =
      (λ j. given (a j) (ended ((ls ++ claim-leaves l x own p c j) ++ a_leaf p kind.Shape ∷ [])) (λ d. going k d (ls ++ claim-leaves l x own p c j)))
      ∙ ap (λ e. going k d (ls ++ leaves table own e)) (sym i) ∙ ap (λ l. going k d l) (sym m)

  -- steps without proofs of their own, from a place on
  pub acts-next : (p : Place) (l : Option ℕ) (xs : List Move) (i j : ℕ) (m : Move) (k : ℕ) (c d : Context) (ls ms : List Leaf) (on : Bool) → j ≡ suc i → i < length xs → m ≡ slice_index_or xs i m
      → Made table p (step_of l m) c ls on d ms
      → act_all table means cite entries p (map (step_of l) (drop i xs)) (going k c ls) ≡ act_all table means cite entries p (map (step_of l) (drop j xs)) (state_of (if on then Some k else None) d ms)
  acts-next p l xs i j m k c d ls ms on e h s made =
      ap (λ ys. act_all table means cite entries p (map (step_of l) ys) (going k c ls)) (rest-from xs i j m e h s)
      ∙ ap (act_all table means cite entries p (map (step_of l) (drop j xs))) (made-acts p l m k c d ls ms on made)
