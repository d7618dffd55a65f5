-- Numbers by which steps are cited.
use Rattle.std.proofs.Common.{◌≡◌, ℕ, List, [], ◌∷◌, Some, None, refl}
use Rattle.usable_facts.specs.Keys.{step_key, label_key}

pub unlabelled : (n : ℕ) (w : List ℕ) → w ≡ [] → label_key n w ≡ None
unlabelled n [] e = refl
unlabelled n (x ∷ w) e = cc

pub labelled : (n : ℕ) (w : List ℕ) → (w ≡ [] → ⊥) → label_key n w ≡ Some (step_key n)
labelled n [] e = absurd (e refl)
labelled n (x ∷ w) e = refl
