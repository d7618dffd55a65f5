-- The way of a path, and records from their last field.
use Rattle.std.proofs.Common.{◌≡◌, ℕ, suc, ◌+◌, ◌<◌, ◌≤◌, List, [], ◌∷◌, ◌++◌, take, length, get_or, refl, ap, sym, ◌∙◌, arith}
use Rattle.std.proofs.lemmas.List.{length-append, length-take}
use Rattle.std.proofs.Math.Nat.{min-le_left}
use Rattle.core_expr.specs.declared.head.Head.TheVariants.{Apply, Except, If}
use Rattle.core_expr.specs.Tree.{eq_, str_}
use Rattle.core_expr.specs.Tree.Tree.{bound}
use Rattle.plain_syntax.specs.Plain.{Text}
use Rattle.prime_expand.specs.declared.both.Both.{Both}
use Rattle.prime_expand.specs.declared.forms.Turn.{Turn}
use Rattle.prime_expand.specs.Both.{same, binary, ternary}
use Rattle.prime_expand.specs.Forms.{along, way, updated, field_value}

abbrev pub turned : Turn → Both × Both
turned t = (t.value, t.key)

pub way_last : (r : Both) (ks : List Both) (k : Both) → way r (ks ++ k ∷ []) ≡ way r ks ++ (along r ks, k) ∷ []
way_last r [] k = refl
way_last r (j ∷ ks) k = ap (λ l. (r, j) ∷ l) (way_last (binary Apply r j) ks k)

-- the updated values, from the innermost
abbrev pub rebuilt : List (Both × Both) → Both → Both
rebuilt [] v = v
rebuilt (t ∷ ts) v = ternary Except t.0 t.1 (rebuilt ts v)

pub rebuilt_last : (ts : List (Both × Both)) (t : Both × Both) (v : Both) → rebuilt (ts ++ t ∷ []) v ≡ rebuilt ts (ternary Except t.0 t.1 v)
rebuilt_last [] t v = refl
rebuilt_last (s ∷ ts) t v = ap (ternary Except s.0 s.1) (rebuilt_last ts t v)

pub updated_rebuilt : (r : Both) (ks : List Both) (v : Both) → updated r ks v ≡ rebuilt (way r ks) v
updated_rebuilt r [] v = refl
updated_rebuilt r (k ∷ ks) v = ap (ternary Except r k) (updated_rebuilt (binary Apply r k) ks v)

abbrev pub field_test : Text → Both
field_test h = same (eq_ (bound 0) (str_ h))

-- the values of fields but the last, each with its test, over the last
abbrev pub tested : List Text → List Both → Both → Both
tested hs [] w = w
tested [] (u ∷ us) w = w
tested (h ∷ hs) (u ∷ us) w = ternary If (field_test h) u (tested hs us w)

pub field_value_taken : (hs : List Text) (vs : List Both) → field_value hs (take (suc (length hs)) vs) ≡ field_value hs vs
field_value_taken hs [] = refl
field_value_taken [] (v ∷ []) = refl
field_value_taken (h ∷ hs) (v ∷ []) = refl
field_value_taken [] (v ∷ w ∷ vs) = refl
field_value_taken (h ∷ hs) (v ∷ w ∷ vs) = ap (ternary If (field_test h) v) (field_value_taken hs (w ∷ vs))

pub field_value_tested : (hs : List Text) (us : List Both) (w : Both) → length us ≤ length hs → field_value hs (us ++ w ∷ []) ≡ tested hs us w
field_value_tested [] [] w h = refl
field_value_tested (f ∷ hs) [] w h = refl
field_value_tested [] (u ∷ us) w h = absurd (let n : ⊥ = omega (arith, h) in n)
field_value_tested (f ∷ hs) (u ∷ []) w h = ap (ternary If (field_test f) u) (field_value_tested hs [] w (omega (arith, h)))
field_value_tested (f ∷ hs) (u ∷ v ∷ us) w h = ap (ternary If (field_test f) u) (field_value_tested hs (v ∷ us) w (omega (arith, h)))

-- the values that are taken for the fields, apart from the last
pub first_values : (hs : List Text) (vs taken us : List Both) (w : Both) (n : ℕ) → n ≡ length hs + 1 → taken ≡ take n vs → taken ≡ us ++ w ∷ []
    → (field_value hs vs ≡ tested hs us w) × (length us ≤ length hs)
first_values hs vs taken us w n e t s =
    let l : length us ≤ length hs = omega (arith, e, ap length s ∙ length-append us (w ∷ []), ap length t ∙ length-take n vs, min-le_left n (length vs)) in
    let m : n ≡ suc (length hs) = omega (arith, e) in
    (sym (field_value_taken hs vs) ∙ ap (λ k. field_value hs (take k vs)) (sym m) ∙ ap (field_value hs) (sym t ∙ s) ∙ field_value_tested hs us w l, l)

pub tested_last : (hs : List Text) (us : List Both) (u w : Both) (d : Text) → length us < length hs
    → tested hs (us ++ u ∷ []) w ≡ tested hs us (ternary If (field_test (get_or hs (length us) d)) u w)
tested_last [] us u w d h = absurd (let n : ⊥ = omega (arith, h) in n)
tested_last (f ∷ hs) [] u w d h = refl
tested_last (f ∷ hs) (v ∷ us) u w d h = ap (ternary If (field_test f) v) (tested_last hs us u w d (omega (arith, h)))

pub along_last : (r : Both) (ks : List Both) (k : Both) → along r (ks ++ k ∷ []) ≡ binary Apply (along r ks) k
along_last r [] k = refl
along_last r (j ∷ ks) k = along_last (binary Apply r j) ks k
