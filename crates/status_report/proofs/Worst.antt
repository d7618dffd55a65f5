-- The verdict that counts, found one verdict after another.
use Rattle.std.specs.Prelude.{◌≡◌, ℕ, suc, ◌+◌, ◌<◌, Bool, false, ◌||◌, nat_eq, if◌then◌else◌, List, ◌∷◌, length, drop, get_or}
use Rattle.std.proofs.Common.{refl, ap, sym, ◌∙◌, arith}
use Rattle.std.proofs.lemmas.Bool.Decides.{nat_tests}
use Rattle.std.proofs.Math.Seq.{drop-cons}
use Rattle.proof_contexts.specs.Statuses.{Verdict, code, is_there, worst}
use Rattle.proof_contexts.specs.Statuses.Verdict.{Temporal, Memory, Unproved, Missing, Omitted, Proved}
use Rattle.status_report.specs.declared.table.LeafIn.{LeafIn}
use Rattle.status_report.specs.Statuses.{verdict_of, leaf_verdicts}
use Rattle.status_report.specs.Telling.{worse}

pub worse-assoc : (a b c : Verdict) → worse (worse a b) c ≡ worse a (worse b c)
worse-assoc a b c = grind (arith, nat_tests)

-- the first of them that is there
first : Bool → Bool → Bool → Bool → Bool → Verdict
first t m u i o = if t then Temporal else if m then Memory else if u then Unproved else if i then Missing else if o then Omitted else Proved

first-worse : (v : Verdict) (t m u i o : Bool)
    → first (nat_eq 0 (code v) || t) (nat_eq 1 (code v) || m) (nat_eq 2 (code v) || u) (nat_eq 3 (code v) || i) (nat_eq 4 (code v) || o) ≡ worse v (first t m u i o)
unfolding first
first-worse Temporal false false false false false = refl
first-worse Memory false false false false false = refl
first-worse Unproved false false false false false = refl
first-worse Missing false false false false false = refl
first-worse Omitted false false false false false = refl
first-worse Proved false false false false false = refl
first-worse _ _ _ _ _ _ = refl

pub worst-cons : (v : Verdict) (vs : List Verdict) → worst (v ∷ vs) ≡ worse v (worst vs)
unfolding first
worst-cons v vs = first-worse v (is_there Temporal vs) (is_there Memory vs) (is_there Unproved vs) (is_there Missing vs) (is_there Omitted vs)

-- one more leaf
pub worst_next : (leaves : List LeafIn) (i : ℕ) (d : LeafIn) (old new x z : Verdict) → i < length leaves → x ≡ verdict_of (get_or leaves i d).verdict
    → worse old (worst (leaf_verdicts (drop i leaves))) ≡ z → new ≡ worse old x → worse new (worst (leaf_verdicts (drop (i + 1) leaves))) ≡ z
worst_next leaves i d old new x z h e w n =
    let more : i + 1 ≡ suc i = omega arith in
    (λ j. worse (n j) (worst (leaf_verdicts (drop (more j) leaves)))) ∙ worse-assoc old x (worst (leaf_verdicts (drop (suc i) leaves)))
    ∙ (λ j. worse old (worse (e j) (worst (leaf_verdicts (drop (suc i) leaves)))))
    ∙ ap (worse old) (sym (worst-cons (verdict_of (get_or leaves i d).verdict) (leaf_verdicts (drop (suc i) leaves))) ∙ sym (ap (λ ls. worst (leaf_verdicts ls)) (drop-cons leaves i d h))) ∙ w
