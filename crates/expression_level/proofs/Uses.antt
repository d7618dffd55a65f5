-- Loops over uses, one step after another.
use Rattle.std.proofs.Common.{◌≡◌, ℕ, zero, suc, ◌+◌, ◌≤◌, ◌<◌, nat_lt, if◌then◌else◌, Option, Some, None, List, [], ◌∷◌, ◌++◌, append_assoc, append-nil, take, length, get_or, refl, sym, ap, subst, arith, add-one}
use lib.ListN.{set}
use Rattle.std.proofs.lemmas.List.{length-take}
use Rattle.std.proofs.Math.Seq.{take-suc}
use Rattle.expression_level.specs.declared.weight.Use.{Use}
use Rattle.expression_level.specs.Weights.{Weight, both, stricter, all_uses, nothing, join}
use Rattle.expression_level.proofs.Evaluation.{higher-zero, higher-none, higher-assoc, or-assoc}

all-with-none : (us : List Use) → all_uses us [] ≡ us
all-with-none [] = refl
all-with-none (u ∷ us) = refl

both-next : (us vs : List Use) (i : ℕ) (d e : Use) → i < length vs → i < length (all_uses us (take i vs))
    → set (all_uses us (take i vs)) i (both (get_or (all_uses us (take i vs)) i d) (get_or vs i e)) ≡ all_uses us (take (suc i) vs)
both-next [] vs i d e h k = absurd (let t = length-take i vs in grind (arith, t))
both-next (u ∷ us) [] i d e h k = absurd (grind arith)
both-next (u ∷ us) (v ∷ vs) zero d e h k = ap (λ l. both u v ∷ l) (sym (all-with-none us))
both-next (u ∷ us) (v ∷ vs) (suc i) d e h k = ap (λ l. both u v ∷ l) (both-next us vs i d e (omega (arith, h)) (omega (arith, k)))

more-next : (us vs : List Use) (i : ℕ) (e : Use) → i < length vs → length (all_uses us (take i vs)) ≤ i
    → all_uses us (take i vs) ++ get_or vs i e ∷ [] ≡ all_uses us (take (suc i) vs)
more-next [] vs i e h k = sym (take-suc vs i e h)
more-next (u ∷ us) [] i e h k = absurd (grind arith)
more-next (u ∷ us) (v ∷ vs) zero e h k = absurd (grind arith)
more-next (u ∷ us) (v ∷ vs) (suc i) e h k = ap (λ l. both u v ∷ l) (more-next us vs i e (omega (arith, h)) (omega (arith, k)))

-- one more item is joined to the one in its place
pub join-next : (us vs now : List Use) (i : ℕ) (x y e : Use) → now ≡ all_uses us (take i vs) → i < length vs → i < length now → x ≡ get_or now i x → y ≡ both x (get_or vs i e)
    → set now i y ≡ all_uses us (take (i + 1) vs)
join-next us vs now i x y e n h k a b =
    let s = both-next us vs i x e h (subst (λ l. i < length l) n k) in let t = ap (λ m. all_uses us (take m vs)) (add-one i) in cc

-- and where there is none it is put behind the others
pub join-more : (us vs now : List Use) (i : ℕ) (e : Use) → now ≡ all_uses us (take i vs) → i < length vs → length now ≤ i → now ++ get_or vs i e ∷ [] ≡ all_uses us (take (i + 1) vs)
join-more us vs now i e n h k = let s = more-next us vs i e h (subst (λ l. length l ≤ i) n k) in let t = ap (λ m. all_uses us (take m vs)) (add-one i) in cc

pub none-joined : (us : List Use) → us ≡ all_uses us []
none-joined us = sym (all-with-none us)

-- ---- weights side by side

stricter-assoc : (a b c : Option ℕ) → stricter (stricter a b) c ≡ stricter a (stricter b c)
stricter-assoc None b c = refl
stricter-assoc (Some k) None c = refl
stricter-assoc (Some k) (Some m) None = refl
stricter-assoc (Some k) (Some m) (Some n) = ap Some (lower-assoc k m n)
  where
    lower-assoc : (k m n : ℕ) → (if nat_lt (if nat_lt k m then k else m) n then (if nat_lt k m then k else m) else n) ≡ (if nat_lt k (if nat_lt m n then m else n) then k else (if nat_lt m n then m else n))
    lower-assoc k m n = grind arith

both-assoc : (u v w : Use) → both (both u v) w ≡ both u (both v w)
both-assoc u v w i = record {
  plain = or-assoc u.plain v.plain w.plain i;
  raised = or-assoc u.raised v.raised w.raised i;
  limit = stricter-assoc u.limit v.limit w.limit i;
  held = or-assoc u.held v.held w.held i;
  primed = or-assoc u.primed v.primed w.primed i;
}

uses-assoc : (us vs ws : List Use) → all_uses (all_uses us vs) ws ≡ all_uses us (all_uses vs ws)
uses-assoc [] vs ws = refl
uses-assoc (u ∷ us) [] ws = refl
uses-assoc (u ∷ us) (v ∷ vs) [] = refl
uses-assoc (u ∷ us) (v ∷ vs) (w ∷ ws) = λ i. both-assoc u v w i ∷ uses-assoc us vs ws i

pub join-assoc : (x y z : Weight) → join (join x y) z ≡ join x (join y z)
join-assoc x y z i = record {
  least = higher-assoc x.least y.least z.least i;
  uses = uses-assoc x.uses y.uses z.uses i;
  faults = append_assoc x.faults y.faults z.faults i;
}

pub nothing-joined : (x : Weight) → join nothing x ≡ x
nothing-joined x i = record { least = higher-zero x.least i; uses = x.uses; faults = x.faults }

pub joined-nothing : (x : Weight) → join x nothing ≡ x
joined-nothing x i = record { least = higher-none x.least i; uses = all-with-none x.uses i; faults = append-nil x.faults i }
