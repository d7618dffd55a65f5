-- A step is free where no step before uses it: so steps that take free ones alone use none twice.
use Rattle.std.proofs.Common.{◌≡◌, ℕ, zero, suc, ◌<◌, Bool, true, false, nat_eq, List, [], ◌∷◌, ◌++◌, length, refl, ap, sym, ◌∙◌, subst, arith, eq-eqb, append_assoc, append-nil, length-append}
use Rattle.std.proofs.lemmas.List.{length-set, get_or-set_same, get_or-set_other}
use Rattle.std.proofs.lemmas.Bool.{eqb-true}
use Rattle.core_expr.specs.Nodes.{AreBelow}
use Rattle.seq_calculus.specs.declared.lists.ProofStep.{ProofStep}
use Rattle.seq_calculus.specs.Lists.{AreSteps, all_premises, IsApart, AreApart}
use Rattle.proof_text.specs.Reading.{AllFrom}
use Rattle.proof_text.specs.Readers.{is_free, without, without_all, next_free}
use Rattle.proof_text.proofs.StepFormats.{IsStepAt}

abbrev IsFree : List Bool → ℕ → Type 0
IsFree free x = is_free free x ≡ true

-- of the first j steps, those are free that are none of u
pub record Tracks (free : List Bool) (j : ℕ) (u : List ℕ) : Type 0 where
  pub count : length free ≡ j
  pub below : AreBelow j u
  pub apart : AreApart u
  pub to : (x : ℕ) → is_free free x ≡ true → (x < j) × IsApart x u
  pub from : (x : ℕ) → x < j → IsApart x u → is_free free x ≡ true

apart-push : (u : List ℕ) (x p : ℕ) → IsApart x u → ¬ (x ≡ p) → IsApart x (u ++ p ∷ [])
apart-push [] x p h d = (d, tt)
apart-push (y ∷ u) x p h d = (h.0, apart-push u x p h.1 d)

apart-pop : (u : List ℕ) (x p : ℕ) (ps : List ℕ) → IsApart x (u ++ p ∷ ps) → IsApart x u × ¬ (x ≡ p)
apart-pop [] x p ps h = (tt, h.0)
apart-pop (y ∷ u) x p ps h = let q = apart-pop u x p ps h.1 in ((h.0, q.0), q.1)

all-apart-push : (u : List ℕ) (p : ℕ) → AreApart u → IsApart p u → AreApart (u ++ p ∷ [])
all-apart-push [] p h d = (tt, tt)
all-apart-push (y ∷ u) p h d = (apart-push u y p h.0 (λ e. d.0 (sym e)), all-apart-push u p h.1 d.1)

apart-middle : (u : List ℕ) (p : ℕ) (ps : List ℕ) → AreApart (u ++ p ∷ ps) → IsApart p u
apart-middle [] p ps h = tt
apart-middle (y ∷ u) p ps h = let q = apart-pop u y p ps h.0 in ((λ e. q.1 (sym e)), apart-middle u p ps h.1)

below-push : (j : ℕ) (u : List ℕ) (p : ℕ) → AreBelow j u → p < j → AreBelow j (u ++ p ∷ [])
below-push j [] p h l = (l, tt)
below-push j (y ∷ u) p h l = (h.0, below-push j u p h.1 l)

below-more : (j : ℕ) (u : List ℕ) → AreBelow j u → AreBelow (suc j) u
below-more j [] h = tt
below-more j (y ∷ u) h = ((let p = h.0 in omega arith), below-more j u h.1)

apart-below : (j : ℕ) (u : List ℕ) → AreBelow j u → IsApart j u
apart-below j [] h = tt
apart-below j (y ∷ u) h = ((λ e. let p = h.0 in omega arith), apart-below j u h.1)

-- a step is used
track-without : (free : List Bool) (j : ℕ) (u : List ℕ) (p : ℕ) → Tracks free j u → is_free free p ≡ true → Tracks (without free p) j (u ++ p ∷ [])
track-without free j u p t h =
    let q = t.to p h in
    record {
      count = length-set free p false ∙ t.count;
      below = below-push j u p t.below q.0;
      apart = all-apart-push u p t.apart q.1;
      to = to;
      from = from;
    }
  where
    to : (x : ℕ) → is_free (without free p) x ≡ true → (x < j) × IsApart x (u ++ p ∷ [])
    to x e = go (nat_eq x p) refl
      where
        go : (b : Bool) → nat_eq x p ≡ b → (x < j) × IsApart x (u ++ p ∷ [])
        go true q =
            let within : p < length free = (let z = (t.to p h).0 in omega (arith, t.count)) in
            let no : is_free (without free p) x ≡ false = ap (is_free (without free p)) (eqb-true x p q) ∙ get_or-set_same free p false false within in
            cc
        go false q =
            let ne : x ≡ p → ⊥ = (λ z. (let b : nat_eq x p ≡ true = eq-eqb x p z in cc)) in
            let z = t.to x (sym (get_or-set_other free p x false false ne) ∙ e) in
            (z.0, apart-push u x p z.1 ne)

    from : (x : ℕ) → x < j → IsApart x (u ++ p ∷ []) → is_free (without free p) x ≡ true
    from x l a = let z = apart-pop u x p [] a in get_or-set_other free p x false false z.1 ∙ t.from x l z.0

at-front : (free : List Bool) (x : ℕ) → x < length free → is_free (free ++ true ∷ []) x ≡ is_free free x
at-front [] x l = absurd (omega arith)
at-front (b ∷ free) zero l = refl
at-front (b ∷ free) (suc x) l = at-front free x (omega arith)

at-end : (free : List Bool) → is_free (free ++ true ∷ []) (length free) ≡ true
at-end [] = refl
at-end (b ∷ free) = at-end free

at-last : (free : List Bool) (x : ℕ) → is_free (free ++ true ∷ []) x ≡ true → x < suc (length free)
at-last [] zero e = omega arith
at-last [] (suc x) e = cc
at-last (b ∷ free) zero e = omega arith
at-last (b ∷ free) (suc x) e = let l = at-last free x e in omega arith

-- a further step is free
track-add : (free : List Bool) (j : ℕ) (u : List ℕ) → Tracks free j u → Tracks (free ++ true ∷ []) (suc j) u
track-add free j u t = record {
  count = omega (arith, length-append free (true ∷ []), t.count);
  below = below-more j u t.below;
  apart = t.apart;
  to = to;
  from = from;
}
  where
    to : (x : ℕ) → is_free (free ++ true ∷ []) x ≡ true → (x < suc j) × IsApart x u
    to x e = go (nat_eq x j) refl
      where
        go : (b : Bool) → nat_eq x j ≡ b → (x < suc j) × IsApart x u
        go true q = let z = eqb-true x j q in (omega arith, subst (λ y. IsApart y u) (sym z) (apart-below j u t.below))
        go false q =
            let ne : x ≡ j → ⊥ = (λ z. (let b : nat_eq x j ≡ true = eq-eqb x j z in cc)) in
            let l = at-last free x e in
            let z = t.to x (sym (at-front free x (omega (arith, l, ne, t.count))) ∙ e) in
            (omega (arith, z.0), z.1)

    from : (x : ℕ) → x < suc j → IsApart x u → is_free (free ++ true ∷ []) x ≡ true
    from x l a = go (nat_eq x j) refl
      where
        go : (b : Bool) → nat_eq x j ≡ b → is_free (free ++ true ∷ []) x ≡ true
        go true q = let z = eqb-true x j q in ap (is_free (free ++ true ∷ [])) (z ∙ sym t.count) ∙ at-end free
        go false q =
            let ne : x ≡ j → ⊥ = (λ z. (let b : nat_eq x j ≡ true = eq-eqb x j z in cc)) in
            at-front free x (omega (arith, l, ne, t.count)) ∙ t.from x (omega (arith, l, ne)) a

seam : (u : List ℕ) (p : ℕ) (ps : List ℕ) → (u ++ p ∷ []) ++ ps ≡ u ++ p ∷ ps
seam u p ps = append_assoc u (p ∷ []) ps

-- premises that are free, each once
track-all : (free : List Bool) (j : ℕ) (u ps : List ℕ) → Tracks free j u → AllFrom IsFree without free ps → Tracks (without_all free ps) j (u ++ ps) × AreBelow j ps
track-all free j u [] t h = (subst (Tracks free j) (sym (append-nil u)) t, tt)
track-all free j u (p ∷ ps) t h =
    let r = track-all (without free p) j (u ++ p ∷ []) ps (track-without free j u p t h.0) h.1 in
    (subst (Tracks (without_all (without free p) ps) j) (seam u p ps) r.0, ((t.to p h.0).0, r.1))

all-free : (free : List Bool) (j : ℕ) (u ps more : List ℕ) → Tracks free j u → AreBelow j ps → AreApart (u ++ (ps ++ more)) → AllFrom IsFree without free ps
all-free free j u [] more t b a = tt
all-free free j u (p ∷ ps) more t b a =
    let h = t.from p b.0 (apart-middle u p (ps ++ more) a) in
    (h, all-free (without free p) j (u ++ p ∷ []) ps more (track-without free j u p t h) b.1 (subst AreApart (sym (seam u p (ps ++ more))) a))

steps-to : (n j : ℕ) (free : List Bool) (u : List ℕ) (ss : List ProofStep) → Tracks free j u → AllFrom (IsStepAt n) next_free free ss → AreSteps n j ss × AreApart (u ++ all_premises ss)
steps-to n j free u [] t h = (tt, subst AreApart (sym (append-nil u)) t.apart)
steps-to n j free u (s ∷ ss) t h =
    let a = track-all free j u s.premises t h.0.premises in
    let r = steps-to n (suc j) (next_free free s) (u ++ s.premises) ss (track-add (without_all free s.premises) j (u ++ s.premises) a.0) h.1 in
    ((record { form = h.0.form; exprs = h.0.exprs; premises = a.1 }, r.0), subst AreApart (append_assoc u s.premises (all_premises ss)) r.1)

steps-from : (n j : ℕ) (free : List Bool) (u : List ℕ) (ss : List ProofStep) → Tracks free j u → AreSteps n j ss → AreApart (u ++ all_premises ss) → AllFrom (IsStepAt n) next_free free ss
steps-from n j free u [] t h a = tt
steps-from n j free u (s ∷ ss) t h a =
    let f = all-free free j u s.premises (all_premises ss) t h.0.premises a in
    let r = track-add (without_all free s.premises) j (u ++ s.premises) (track-all free j u s.premises t f).0 in
    (record { form = h.0.form; exprs = h.0.exprs; premises = f }, steps-from n (suc j) (next_free free s) (u ++ s.premises) ss r h.1 (subst AreApart (sym (append_assoc u s.premises (all_premises ss))) a))

track-none : Tracks [] 0 []
track-none = record { count = refl; below = tt; apart = tt; to = λ x e. cc; from = λ x l a. absurd (omega arith) }

pub allowed-steps : (n : ℕ) (ss : List ProofStep) → AllFrom (IsStepAt n) next_free [] ss → AreSteps n 0 ss × AreApart (all_premises ss)
allowed-steps n ss h = steps-to n 0 [] [] ss track-none h

pub steps-allowed : (n : ℕ) (ss : List ProofStep) → AreSteps n 0 ss → AreApart (all_premises ss) → AllFrom (IsStepAt n) next_free [] ss
steps-allowed n ss h a = steps-from n 0 [] [] ss track-none h a
