-- Laws of the steps that no step uses yet.
use Rattle.std.proofs.Common.{◌≡◌, ℕ, zero, suc, ◌+◌, ◌≤◌, Bool, true, false, None, List, [], ◌∷◌, ◌++◌, length, refl, ap, sym, ◌∙◌, arith}
use Rattle.std.specs.Prelude.{slice_get}
use Rattle.proof_text.specs.Readers.{free_count, is_free, without, without_all}

pub count-without : (free : List Bool) (x : ℕ) → is_free free x ≡ true → suc (free_count (without free x)) ≡ free_count free
count-without [] x h = cc
count-without (true ∷ free) zero h = refl
count-without (false ∷ free) zero h = cc
count-without (true ∷ free) (suc x) h = ap suc (count-without free x h)
count-without (false ∷ free) (suc x) h = count-without free x h

pub count-add : (free : List Bool) → free_count (free ++ true ∷ []) ≡ suc (free_count free)
count-add [] = refl
count-add (true ∷ free) = ap suc (count-add free)
count-add (false ∷ free) = count-add free

pub count-length : (free : List Bool) → free_count free ≤ length free
count-length [] = omega arith
count-length (true ∷ free) = omega (arith, count-length free)
count-length (false ∷ free) = omega (arith, count-length free)

pub past-free : (free : List Bool) (x : ℕ) → None ≡ slice_get free x → false ≡ is_free free x
past-free [] x h = refl
past-free (b ∷ free) zero h = cc
past-free (b ∷ free) (suc x) h = past-free free x h

pub count_step : (free more : List Bool) (n : ℕ) → n ≡ free_count free → more ≡ free ++ true ∷ [] → n + 1 ≡ free_count more
count_step free more n e f = omega (arith, count-add free, ap free_count f)

pub count_back : (free more : List Bool) (n x : ℕ) → n ≡ free_count free → is_free free x ≡ true → more ≡ without free x → n ≡ free_count more + 1
count_back free more n x e h f = omega (arith, count-without free x h, ap free_count f)

without_all-more : (free : List Bool) (ps : List ℕ) (p : ℕ) → without_all free (ps ++ p ∷ []) ≡ without (without_all free ps) p
without_all-more free [] p = refl
without_all-more free (q ∷ ps) p = without_all-more (without free q) ps p

pub without_step : (free : List Bool) (ps qs : List ℕ) (p : ℕ) (old new : List Bool) → old ≡ without_all free ps → new ≡ without old p → qs ≡ ps ++ p ∷ [] → new ≡ without_all free qs
without_step free ps qs p old new e f g = f ∙ ap (λ z. without z p) e ∙ sym (without_all-more free ps p) ∙ ap (without_all free) (sym g)
