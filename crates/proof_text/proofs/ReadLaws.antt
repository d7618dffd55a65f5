-- What readers that follow one another answer.
use Rattle.std.proofs.Common.{◌≡◌, ℕ, suc, Bool, Option, Some, List, [], ◌∷◌, ◌++◌, refl, ap, sym, ◌∙◌, append_assoc, append-nil}
use Rattle.proof_text.specs.Reading.{Answer, Reader, after, seen, tested, number, pair, many, fault_at, FaultIs}
use Rattle.proof_text.specs.declared.cursor.Fault.{Fault}
use Rattle.proof_text.specs.declared.cursor.Fault.TheVariants.{Bad, Memory}
use Rattle.proof_text.specs.Reading.Answer.{took, bad}

pub number_at : (p : ℕ → Bool) (l : List ℕ) (x : ℕ) (m : List ℕ) → l ≡ x ∷ m → number p l ≡ tested (p x) x m
number_at p l x m e = ap (number p) e

pub after_fault : {A B : Type 0} (x : Answer A) (f : A → Reader B) (n : ℕ) → fault_at x ≡ Some n → fault_at (after x f) ≡ Some n
after_fault (took a l) f n h = cc
after_fault (bad l) f n h = h

pub seen_fault : {A B : Type 0} (f : A → B) (x : Answer A) (n : ℕ) → fault_at x ≡ Some n → fault_at (seen f x) ≡ Some n
seen_fault f (took a l) n h = cc
seen_fault f (bad l) n h = h

-- a fault of a part is one of the whole
pub fault_moves : (e : Fault) (o p : Option ℕ) → ((n : ℕ) → o ≡ Some n → p ≡ Some n) → FaultIs e o → FaultIs e p
fault_moves (Bad n) o p f h = f n h
fault_moves Memory o p f h = tt

module _ {A B C : Type 0} (mk : A → B → C) (r : Reader A) (s : A → Reader B) where
  pub pair_took : (l : List ℕ) (a : A) (m : List ℕ) (b : B) (k : List ℕ) → r l ≡ took a m → s a m ≡ took b k → pair mk r s l ≡ took (mk a b) k
  pair_took l a m b k e f = ap (λ x. after x (λ a n. seen (mk a) (s a n))) e ∙ ap (seen (mk a)) f

  pub pair_first : (l : List ℕ) (n : ℕ) → fault_at (r l) ≡ Some n → fault_at (pair mk r s l) ≡ Some n
  pair_first l n h = after_fault (r l) (λ a n. seen (mk a) (s a n)) n h

  pub pair_second : (l : List ℕ) (a : A) (m : List ℕ) (n : ℕ) → r l ≡ took a m → fault_at (s a m) ≡ Some n → fault_at (pair mk r s l) ≡ Some n
  pair_second l a m n e h = ap (λ x. fault_at (after x (λ a n. seen (mk a) (s a n)))) e ∙ seen_fault (mk a) (s a m) n h

-- a loop that reads so many items: what it has read stands before what it reads yet
module _ {S A : Type 0} (r : S → Reader A) (next : S → A → S) where
  -- so many are left to be read behind these
  abbrev pub Going : Answer (List A) → List A → ℕ → S → List ℕ → Type 0
  Going whole items c s l = whole ≡ seen (λ rest. items ++ rest) (many r next c s l)

  seen-id : (x : Answer (List A)) → x ≡ seen (λ rest. [] ++ rest) x
  seen-id (took a l) = refl
  seen-id (bad l) = refl

  pub many_start : (whole : Answer (List A)) (items : List A) (n c : ℕ) (s t : S) (l : List ℕ) → n ≡ c → t ≡ s → items ≡ [] → whole ≡ many r next c s l → Going whole items n t l
  many_start whole items n c s t l e f g h =
      h ∙ seen-id (many r next c s l) ∙ (λ i. seen (λ rest. sym g i ++ rest) (many r next (sym e i) (sym f i) l))

  behind : (items : List A) (a : A) (x : Answer (List A)) → seen (λ rest. items ++ rest) (seen (λ rest. a ∷ rest) x) ≡ seen (λ rest. (items ++ a ∷ []) ++ rest) x
  behind items a (took b l) = ap (λ z. took z l) (sym (append_assoc items (a ∷ []) b))
  behind items a (bad l) = refl

  many_took : (whole : Answer (List A)) (items : List A) (n c : ℕ) (s : S) (l : List ℕ) (a : A) (m : List ℕ) → n ≡ suc c → Going whole items n s l → r s l ≡ took a m → Going whole (items ++ a ∷ []) c (next s a) m
  many_took whole items n c s l a m e g h =
      g ∙ ap (λ n. seen (λ rest. items ++ rest) (many r next n s l)) e
      ∙ ap (λ x. seen (λ rest. items ++ rest) (after x (λ a n. seen (λ rest. a ∷ rest) (many r next c (next s a) n)))) h
      ∙ behind items a (many r next c (next s a) m)

  pub many_step : (whole : Answer (List A)) (items more : List A) (n c : ℕ) (s t : S) (l : List ℕ) (a : A) (m : List ℕ) → n ≡ suc c → t ≡ next s a → more ≡ items ++ a ∷ [] → Going whole items n s l → r s l ≡ took a m → Going whole more c t m
  many_step whole items more n c s t l a m e f q g h =
      many_took whole items n c s l a m e g h ∙ (λ i. seen (λ rest. sym q i ++ rest) (many r next c (sym f i) m))

  pub many_fault : (whole : Answer (List A)) (items : List A) (n c : ℕ) (s : S) (l : List ℕ) (k : ℕ) → n ≡ suc c → Going whole items n s l → fault_at (r s l) ≡ Some k → fault_at whole ≡ Some k
  many_fault whole items n c s l k e g h =
      ap fault_at g ∙ ap (λ n. fault_at (seen (λ rest. items ++ rest) (many r next n s l))) e
      ∙ seen_fault (λ rest. items ++ rest) (many r next (suc c) s l) k (after_fault (r s l) (λ a n. seen (λ rest. a ∷ rest) (many r next c (next s a) n)) k h)

  pub many_done : (whole : Answer (List A)) (items : List A) (n : ℕ) (s : S) (l : List ℕ) → n ≡ 0 → Going whole items n s l → whole ≡ took items l
  many_done whole items n s l e g = g ∙ ap (λ n. seen (λ rest. items ++ rest) (many r next n s l)) e ∙ ap (λ z. took z l) (append-nil items)
