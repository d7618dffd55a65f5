-- The first line of bytes ends at the first line feed, or is all of them.
use Rattle.std.proofs.Common.{◌≡◌, ◌≢◌, ℕ, zero, suc, ◌-◌, ◌<◌, List, [], ◌∷◌, true, false, nat_eq, length, take, drop, get_or, refl, ap, sym, ◌∙◌, arith}
use Rattle.std.specs.Prelude.{Some, None}
use Rattle.std.proofs.lemmas.Bool.{false_from_ne_true}
use Rattle.std.proofs.lemmas.List.{take_rest}
use Rattle.memchr.specs.Find.{IsFirstByte, is_byte}
use Rattle.cache_file.specs.Lines.{lines_of}

first : (bs : List ℕ) (i : ℕ) → i < length bs → ((k : ℕ) → k < i → nat_eq (get_or bs k 0) 10 ≡ false) → nat_eq (get_or bs i 0) 10 ≡ true
    → lines_of bs ≡ take i bs ∷ lines_of (drop (suc i) bs)
first [] i within none here = absurd (omega arith)
first (b ∷ bs) zero within none here = rw here refl
first (b ∷ bs) (suc i) within none here = rw (none 0 (omega arith), first bs i (omega arith) (λ k h. none (suc k) (omega arith)) here) refl

only : (bs : List ℕ) → bs ≢ [] → ((k : ℕ) → k < length bs → nat_eq (get_or bs k 0) 10 ≡ false) → lines_of bs ≡ bs ∷ []
only [] some none = absurd (some refl)
only (b ∷ []) some none = rw (none 0 (omega arith)) refl
only (b ∷ c ∷ bs) some none = rw (none 0 (omega arith), only (c ∷ bs) (λ e. cc) (λ k h. none (suc k) (omega arith))) refl

-- where the first line feed stands, the first line ends
pub first_line : (bs : List ℕ) (i j : ℕ) → j ≡ suc i → IsFirstByte (is_byte 10) bs (Some i) → lines_of bs ≡ take i bs ∷ lines_of (take (length bs - j) (drop j bs))
first_line bs i j e found =
    first bs i found.0.high (λ k h. false_from_ne_true _ (found.0.before k (omega arith) h)) found.1
    ∙ ap (λ n. take i bs ∷ lines_of (drop n bs)) (sym e) ∙ ap (λ l. take i bs ∷ lines_of l) (sym (take_rest bs j))

-- where there is none, all bytes are one line
pub only_line : (bs : List ℕ) → bs ≢ [] → IsFirstByte (is_byte 10) bs None → lines_of bs ≡ bs ∷ []
only_line bs some none = only bs some (λ k h. false_from_ne_true _ (none k (omega arith) h))
