-- What stands at the front of a text is what it is spelled as.
use Rattle.std.proofs.Common.{◌≡◌, ℕ, zero, suc, ◌+◌, ◌-◌, ◌<◌, ◌≤◌, Bool, true, false, cond, not, ◌&&◌, ◌||◌, ◌==◌, nat_eq, nat_lt, nat_le, ◌⊎◌, inl, inr, List, [], ◌∷◌, ◌++◌, length, take, drop, get_or, slice_index, Option, Some, None, refl, sym, subst, ap, ◌∙◌, arith, length-take, length-append, append_assoc, min, codes}
use Rattle.std.specs.List.{list_all, list_any, starts_with}
use Rattle.std.specs.Char.{is_ascii_digit, is_ascii_alphabetic}
use Rattle.std.specs.Cmp.Lexicographic.{pointwise}
use Rattle.std.proofs.lemmas.List.Sums.{prefix_len-le-length}
use Rattle.std.proofs.lemmas.Bool.{eqb-true, ltb-false, ltb-true, leb-true, cond-true, cond-false}
use Rattle.std.proofs.lemmas.List.{get_or_past, take_min, take-append-drop}
use Rattle.std.proofs.Math.Dec.{eqb-suc-zero}
use Rattle.std.proofs.lemmas.Bool.Decides.{Decides-eqb}
use Rattle.std.proofs.lemmas.Slice.Eq.{starts_is}
use Rattle.std.proofs.Math.Seq.{take-append_seam, drop-cons}
use Rattle.tla_ast.specs.declared.token.Tok.{Tok}
use Rattle.tla_ast.specs.declared.token.Tok.TheVariants as tok
use Rattle.tla_ast.specs.declared.fault.Kind.TheVariants.{BadByte, NumberTooLarge}
use Rattle.tla_ast.specs.Listing.{is_last}
use Rattle.tla_ast.specs.Word.{is_word_byte, begins_with_fairness}
use Rattle.tla_lexer.specs.declared.piece.Piece.{Piece}
use Rattle.tla_lexer.specs.declared.piece.Piece.TheVariants.{Gap, Token, End, Fault}
use Rattle.tla_lexer.specs.declared.string.Move.{Move}
use Rattle.tla_lexer.specs.declared.string.Move.TheVariants.{Holds, Escapes, Closes, Breaks, Wrong}
use Rattle.tla_lexer.specs.Signs.{Text, canonical, longest, longest_from, signs, is_backslash_word}
use Rattle.tla_lexer.specs.Runs.{is_blank, word_len, digit_len, same_len, line_len}
use Rattle.tla_lexer.specs.Comments.{rest_len, longer, opens, closes}
use Rattle.tla_lexer.specs.Strings.{Quoted, closed, unclosed, wrong, string_from, by_move, behind_value, move_of}
use Rattle.tla_lexer.specs.Pieces.{piece_at, value_of, is_small, number, word, sign, comment, quoted, is_step, step, step_tail, opens_line, mark, fairness, backslash_word}
use Rattle.tla_lexer.specs.Law.{Inside, last, closing, opening, passing, IsGap, blank, line, nested, Quotes, close, plain, escape, Spells, AreAll}
use Rattle.tla_lexer.proofs.Runs.{all-prefix}

abbrev pub Fits : Text → Piece → Type 0
Fits z (Gap n) = (1 ≤ n) × (n ≤ length z) × IsGap (take n z)
Fits z (Token t n) = (1 ≤ n) × (n ≤ length z) × (is_last t ≡ false) × Spells t (take n z)
Fits z End = 4 ≤ same_len 61 z
Fits z (Fault k n) = Unit {0}

-- ---- choices

by-cond : {X : Type 0} (P : X → Type 0) (b : Bool) (x y : X) → (b ≡ true → P x) → (b ≡ false → P y) → P (cond b x y)
by-cond P true x y f g = f refl
by-cond P false x y f g = g refl

both : (x y : Bool) → (x && y) ≡ true → (x ≡ true) × (y ≡ true)
both true y e = (refl, e)
both false y e = absurd (subst (λ b. cond b ⊥ (Unit {0})) e tt)

either : (x y : Bool) → (x || y) ≡ true → (x ≡ true) ⊎ (y ≡ true)
either true y e = inl refl
either false y e = inr e

two : (n : ℕ) → 2 + n ≡ suc (suc n)
two n = omega arith

one_more : (n : ℕ) → 1 + n ≡ suc n
one_more n = omega arith

-- ---- runs

same-spelled : (byte : ℕ) (z : Text) → 4 ≤ same_len byte z → (4 ≤ length (take (same_len byte z) z)) × AreAll byte (take (same_len byte z) z)
same-spelled byte z h = (omega (arith, length-take {A = ℕ}, prefix_len-le-length (λ b. b == byte) z), all-prefix (λ b. b == byte) z)

pub end-spelled : (z : Text) → 4 ≤ same_len 61 z → Spells tok.End (take (same_len 61 z) z)
end-spelled z h = same-spelled 61 z h

-- ---- gaps

fits-blank : (b : ℕ) (z : Text) → is_blank b ≡ true → Fits (b ∷ z) (Gap 1)
fits-blank b z e = (omega arith, omega arith, blank b e)

line-base : (z : Text) → Fits (92 ∷ 42 ∷ z) (Gap (line_len (92 ∷ 42 ∷ z)))
line-base z =
    let n = line_len z in
    let s : 1 + (1 + n) ≡ suc (suc n) = omega arith in
    let le : n ≤ length z = prefix_len-le-length (λ b. not (b == 10)) z in
    subst (λ k. Fits (92 ∷ 42 ∷ z) (Gap k)) (sym s) (omega arith, omega arith, line (take n z) (all-prefix (λ b. not (b == 10)) z))

-- a piece that begins with two known bytes
at-two : (P : Text → Type 0) (x y b : ℕ) (z : Text) → (b == x && slice_index (b ∷ z) 1 == y) ≡ true → (0 == y) ≡ false → ((w : Text) → P (x ∷ y ∷ w)) → P (b ∷ z)
at-two P x y b [] e apart base = absurd (subst (λ b. cond b ⊥ (Unit {0})) (sym apart ∙ (both _ _ e).1) tt)
at-two P x y b (c ∷ w) e apart base =
    let h = both _ _ e in
    subst (λ k. P (k ∷ c ∷ w)) (sym (eqb-true b x h.0)) (subst (λ k. P (x ∷ k ∷ w)) (sym (eqb-true c y h.1)) (base w))

fits-line : (b : ℕ) (z : Text) → opens_line b (slice_index (b ∷ z) 1) ≡ true → Fits (b ∷ z) (Gap (line_len (b ∷ z)))
fits-line b z e = at-two (λ y. Fits y (Gap (line_len y))) 92 42 b z e refl line-base

-- ---- comments

abbrev Has : Option ℕ → Type 0
Has None = Unit {0}
Has (Some n) = ⊥

none-some : (n : ℕ) → ◌≡◌ {A = Option ℕ} None (Some n) → ⊥
none-some n e = subst Has e tt

some-is : (m n : ℕ) → ◌≡◌ {A = Option ℕ} (Some m) (Some n) → m ≡ n
some-is m n e = cc

longer-some : (k : ℕ) (o : Option ℕ) (n : ℕ) → longer k o ≡ Some n → (m : ℕ) × (o ≡ Some m) × (k + m ≡ n)
longer-some k None n e = absurd (none-some n e)
longer-some k (Some m) n e = (m, refl, some-is _ _ e)

abbrev Closed : ℕ → Text → ℕ → Type 0
Closed d z n = (n ≤ length z) × Inside d (take n z)

open-step : (d b c : ℕ) (z : Text) (n : ℕ) → opens b c ≡ true → ((m : ℕ) → rest_len (suc d) z ≡ Some m → Closed (suc d) z m) → longer 2 (rest_len (suc d) z) ≡ Some n → Closed d (b ∷ c ∷ z) n
open-step d b c z n o more e =
    let h = both _ _ o in
    let m = longer-some 2 (rest_len (suc d) z) n e in
    let r = more m.0 m.1 in
    let s : suc (suc m.0) ≡ n = sym (two m.0) ∙ m.2 in
    let base : Closed d (40 ∷ 42 ∷ z) (suc (suc m.0)) = (omega (arith, r.0), opening r.1) in
    subst (λ x. Closed d (x ∷ c ∷ z) n) (sym (eqb-true b 40 h.0)) (subst (λ y. Closed d (40 ∷ y ∷ z) n) (sym (eqb-true c 42 h.1)) (subst (Closed d (40 ∷ 42 ∷ z)) s base))

close-step : (d b c : ℕ) (z : Text) (n : ℕ) → closes b c ≡ true → ((e m : ℕ) → rest_len e z ≡ Some m → Closed e z m) → cond (d == 0) (Some 2) (longer 2 (rest_len (d - 1) z)) ≡ Some n → Closed d (b ∷ c ∷ z) n
close-step d b c z n o more e =
    let h = both _ _ o in
    subst (λ x. Closed d (x ∷ c ∷ z) n) (sym (eqb-true b 42 h.0)) (subst (λ y. Closed d (42 ∷ y ∷ z) n) (sym (eqb-true c 41 h.1)) (go d e))
  where
    go : (d : ℕ) → cond (d == 0) (Some 2) (longer 2 (rest_len (d - 1) z)) ≡ Some n → Closed d (42 ∷ 41 ∷ z) n
    go zero e = subst (Closed zero (42 ∷ 41 ∷ z)) (some-is 2 n e) (omega arith, last)
    go (suc d) e =
        let back : suc d - 1 ≡ d = omega arith in
        let m = longer-some 2 (rest_len d z) n (ap (λ k. longer 2 (rest_len k z)) (sym back) ∙ sym (cond-false (suc d == 0) (Some 2) (longer 2 (rest_len (suc d - 1) z)) (eqb-suc-zero d)) ∙ e) in
        let r = more d m.0 m.1 in
        subst (Closed (suc d) (42 ∷ 41 ∷ z)) (sym (two m.0) ∙ m.2) (omega (arith, r.0), closing r.1)

none-inside : (d : ℕ) → Inside d [] → ⊥
none-inside d x = elim x [ ]

pass-step : (d b c : ℕ) (z : Text) (n : ℕ) → opens b c ≡ false → closes b c ≡ false → ((m : ℕ) → rest_len d (c ∷ z) ≡ Some m → Closed d (c ∷ z) m) → longer 1 (rest_len d (c ∷ z)) ≡ Some n → Closed d (b ∷ c ∷ z) n
pass-step d b c z n neither nor more e =
    let m = longer-some 1 (rest_len d (c ∷ z)) n e in
    go m.0 (more m.0 m.1) (sym (one_more m.0) ∙ m.2)
  where
    go : (m : ℕ) → Closed d (c ∷ z) m → suc m ≡ n → Closed d (b ∷ c ∷ z) n
    go zero r s = absurd (none-inside d r.1)
    go (suc m) r s = subst (Closed d (b ∷ c ∷ z)) s (omega (arith, r.0), passing b c neither nor r.1)

inside : (d : ℕ) (z : Text) (n : ℕ) → rest_len d z ≡ Some n → Closed d z n
inside d [] n e = absurd (none-some n e)
inside d (b ∷ []) n e = absurd (none-some n e)
inside d (b ∷ c ∷ z) n e =
    by-cond (λ o. o ≡ Some n → Closed d (b ∷ c ∷ z) n) (opens b c) (longer 2 (rest_len (suc d) z)) (cond (closes b c) (cond (d == 0) (Some 2) (longer 2 (rest_len (d - 1) z))) (longer 1 (rest_len d (c ∷ z))))
    (λ o. open-step d b c z n o (λ m. inside (suc d) z m))
    (λ neither. by-cond (λ o. o ≡ Some n → Closed d (b ∷ c ∷ z) n) (closes b c) (cond (d == 0) (Some 2) (longer 2 (rest_len (d - 1) z))) (longer 1 (rest_len d (c ∷ z)))
    (λ o. close-step d b c z n o (λ f m. inside f z m))
    (λ nor. pass-step d b c z n neither nor (λ m. inside d (c ∷ z) m)))
    e

comment-base : (z : Text) → Fits (40 ∷ 42 ∷ z) (comment (rest_len 0 z))
comment-base z = go (rest_len 0 z) refl
  where
    go : (o : Option ℕ) → rest_len 0 z ≡ o → Fits (40 ∷ 42 ∷ z) (comment o)
    go None e = tt
    go (Some n) e = let r = inside 0 z n e in subst (λ k. Fits (40 ∷ 42 ∷ z) (Gap k)) (sym (two n)) (omega arith, omega (arith, r.0), nested r.1)

fits-comment : (b : ℕ) (z : Text) → opens b (slice_index (b ∷ z) 1) ≡ true → Fits (b ∷ z) (comment (rest_len 0 (drop 2 (b ∷ z))))
fits-comment b z e = at-two (λ y. Fits y (comment (rest_len 0 (drop 2 y)))) 40 42 b z e refl comment-base

-- ---- words

front-len : (k : ℕ) (z : Text) → k ≤ length z → length (take k z) ≡ k
front-len k z h = omega (arith, length-take {A = ℕ})

fits-word : (k : ℕ) (z : Text) → 1 ≤ k → k ≤ length z → Fits z (word (take k z))
fits-word k z some le =
    by-cond (Fits z) (list_all is_ascii_digit run) (number run) other
    (λ digits. by-cond (Fits z) (is_small run) (Token (tok.Number (value_of run)) (length run)) (Fault NumberTooLarge 0) (λ s. whole (tok.Number (value_of run)) refl (digits, refl)) (λ s. tt))
    (λ d. by-cond (Fits z) (list_any is_ascii_alphabetic run) (Token (tok.Word run) (length run)) sole
    (λ a. whole (tok.Word run) refl refl)
    (λ a. by-cond (Fits z) (pointwise nat_eq run (codes "_")) (Token (tok.Sign run) (length run)) (Fault BadByte 0) (λ u. whole (tok.Sign run) refl (inl refl)) (λ u. tt)))
  where
    run : Text
    run = take k z

    sole : Piece
    sole = cond (pointwise nat_eq (take k z) (codes "_")) (Token (tok.Sign (take k z)) (length (take k z))) (Fault BadByte 0)

    other : Piece
    other = cond (list_any is_ascii_alphabetic (take k z)) (Token (tok.Word (take k z)) (length (take k z))) (cond (pointwise nat_eq (take k z) (codes "_")) (Token (tok.Sign (take k z)) (length (take k z))) (Fault BadByte 0))

    whole : (t : Tok) → is_last t ≡ false → Spells t (take k z) → Fits z (Token t (length (take k z)))
    whole t l s = subst (λ n. Fits z (Token t n)) (sym (front-len k z le)) (some, le, l, s)

-- ---- signs

-- a text stands at the front of another
abbrev Front : Text → Text → Type 0
Front s z = (length s ≤ length z) × (take (length s) z ≡ s)

starts-is : (p z : Text) → starts_with nat_eq z p ≡ true → Front p z
starts-is p z e =
    let h : z ≡ p ++ drop (length p) z = (starts_is Decides-eqb z p (starts_with nat_eq z p) refl).0 e in
    let l : length z ≡ length p + length (drop (length p) z) = ap length h ∙ length-append p (drop (length p) z) in
    (omega arith, ap (take (length p)) h ∙ take-append_seam p (drop (length p) z))

front-take : (k : ℕ) (z : Text) → Front (take k z) z
front-take k z =
    let l : length (take k z) ≡ min k (length z) = length-take k z in
    (omega arith, ap (λ n. take n z) l ∙ take_min k z)

longest-is : (best : Text) (ss : List Text) (z : Text) → Front best z → Front (longest_from best ss z) z
longest-is best [] z f = f
longest-is best (s ∷ ss) z f =
    longest-is (cond (nat_lt (length best) (length s) && starts_with nat_eq z s) s best) ss z
    (by-cond (λ x. Front x z) (nat_lt (length best) (length s) && starts_with nat_eq z s) s best (λ e. starts-is s z (both _ _ e).1) (λ e. f))

fits-sign : (s z : Text) → Front s z → Fits z (sign s)
fits-sign [] z f = tt
fits-sign (b ∷ s) z f =
    subst (Fits z) (sym (cond-false (length (b ∷ s) == 0) (Fault BadByte 0) (Token (tok.Sign (canonical (b ∷ s))) (length (b ∷ s))) (eqb-suc-zero (length s))))
    (omega arith, f.0, refl, inr (ap canonical f.1))

fits-longest : (z : Text) → Fits z (sign (longest z))
unfolding longest
fits-longest z = fits-sign (longest_from [] signs z) z (longest-is [] signs z (omega arith, refl))

fits-fairness : (z : Text) → begins_with_fairness z ≡ true → Fits z (fairness (take 3 z))
fits-fairness z e = go (either _ _ e)
  where
    go : (starts_with nat_eq z (codes "WF_") ≡ true) ⊎ (starts_with nat_eq z (codes "SF_") ≡ true) → Fits z (fairness (take 3 z))
    go (inl h) = (omega arith, (starts-is (codes "WF_") z h).0, refl, inl refl)
    go (inr h) = (omega arith, (starts-is (codes "SF_") z h).0, refl, inl refl)

-- ---- step tokens

step-text : (d l n : ℕ) (w tail : Text) → tail ≡ drop (suc d) w → d < length w → get_or w d 0 ≡ 62 → l ≤ length tail → n ≤ length (drop l tail)
    → (d + 2 + l + n ≤ length (60 ∷ w)) × (take (d + 2 + l + n) (60 ∷ w) ≡ (60 ∷ take d w) ++ (62 ∷ take l tail ++ take n (drop l tail)))
step-text d l n w tail is h sixty_two le_l le_n =
    let a = take l tail in
    let b = take n (drop l tail) in
    let rest = drop n (drop l tail) in
    let x : Text = (60 ∷ take d w) ++ (62 ∷ a ++ b) in
    let whole_tail : tail ≡ (a ++ b) ++ rest = sym (take-append-drop l tail) ∙ ap (λ r. a ++ r) (sym (take-append-drop n (drop l tail))) ∙ sym (append_assoc a b rest) in
    let cons : drop d w ≡ 62 ∷ tail = drop-cons w d 0 h ∙ ap (λ k. k ∷ drop (suc d) w) sixty_two ∙ ap (λ r. 62 ∷ r) (sym is) in
    let whole : 60 ∷ w ≡ x ++ rest =
    ap (λ r. 60 ∷ r) (sym (take-append-drop d w) ∙ ap (λ r. take d w ++ r) (cons ∙ ap (λ r. 62 ∷ r) whole_tail)) ∙ sym (append_assoc (60 ∷ take d w) (62 ∷ a ++ b) rest) in
    let la : length a ≡ l = front-len l tail le_l in
    let lb : length b ≡ n = front-len n (drop l tail) le_n in
    let ld : length (take d w) ≡ d = front-len d w (omega arith) in
    let lx : length x ≡ suc (length (take d w)) + suc (length a + length b) = length-append (60 ∷ take d w) (62 ∷ a ++ b) ∙ ap (λ k. suc (length (take d w)) + suc k) (length-append a b) in
    let size : length x ≡ d + 2 + l + n = omega arith in
    let lw : length (60 ∷ w) ≡ length x + length rest = ap length whole ∙ length-append x rest in
    (omega arith, ap (λ k. take k (60 ∷ w)) (sym size) ∙ ap (take (length x)) whole ∙ take-append_seam x rest)

within : (w : Text) (d : ℕ) → get_or w d 0 ≡ 62 → d < length w
within w d e = go (nat_lt d (length w)) refl
  where
    zero-not : ◌≡◌ {A = ℕ} 0 62 → ⊥
    zero-not h = omega arith

    go : (b : Bool) → nat_lt d (length w) ≡ b → d < length w
    go true t = ltb-true d (length w) t
    go false f = absurd (zero-not (sym (get_or_past w d 0 (ltb-false d (length w) f)) ∙ e))

step-base : (w : Text) → get_or w (digit_len w) 0 ≡ 62 → Fits (60 ∷ w) (step (60 ∷ w))
step-base w h =
    let d = digit_len w in
    let tail = step_tail (60 ∷ w) in
    let two_more : d + 2 ≡ suc (suc d) = omega arith in
    let is : tail ≡ drop (suc d) w = ap (λ k. drop k (60 ∷ w)) two_more in
    let l = word_len tail in
    let n = same_len 46 (drop l tail) in
    let t = step-text d l n w tail is (within w d h) h (prefix_len-le-length is_word_byte tail) (prefix_len-le-length (λ b. b == 46) (drop l tail)) in
    by-cond (Fits (60 ∷ w)) (is_small (take d w)) (Token (tok.Step (value_of (take d w)) (take l tail)) (d + 2 + l + n)) (Fault NumberTooLarge 0)
    (λ s. (omega arith, t.0, refl, (take d w, take n (drop l tail), t.1, all-prefix is_ascii_digit w, refl, all-prefix (λ b. b == 46) (drop l tail))))
    (λ s. tt)

fits-step : (b : ℕ) (z : Text) → is_step (b ∷ z) ≡ true → Fits (b ∷ z) (step (b ∷ z))
fits-step b z e =
    let h = both _ _ e in
    let one_up : 1 + digit_len z ≡ suc (digit_len z) = omega arith in
    let at_end : get_or z (digit_len z) 0 ≡ 62 = ap (λ k. get_or (b ∷ z) k 0) (sym one_up) ∙ eqb-true _ 62 h.1 in
    subst (λ k. Fits (k ∷ z) (step (k ∷ z))) (sym (eqb-true b 60 (both _ _ h.0).0)) (step-base z at_end)

-- ---- strings

abbrev Ends : Bool → Text → Text → Type 0
Ends false v t = Quotes v t
Ends true v t = (e c : ℕ) × (u s : Text) × (t ≡ e ∷ s) × (v ≡ c ∷ u) × (move_of true e ≡ Holds c) × Quotes u s

abbrev Ended : Quoted → Type 0
Ended (closed v n) = Unit {0}
Ended unclosed = ⊥
Ended (wrong n) = ⊥

abbrev Quoting : Bool → Text → Text → ℕ → Type 0
Quoting f z v n = (n ≤ length z) × Ends f v (take n z)

closed-is : (v w : Text) (m n : ℕ) → closed v m ≡ closed w n → (v ≡ w) × (m ≡ n)
closed-is v w m n e = (cc, cc)

behind-closed : (a : Text) (k : ℕ) (q : Quoted) (v : Text) (n : ℕ) → behind_value a k q ≡ closed v n → (u : Text) × (m : ℕ) × (q ≡ closed u m) × (a ++ u ≡ v) × (k + m ≡ n)
behind-closed a k (closed u m) v n e = let h = closed-is (a ++ u) v (k + m) n e in (u, m, refl, h.0, h.1)
behind-closed a k unclosed v n e = absurd (subst Ended (sym e) tt)
behind-closed a k (wrong m) v n e = absurd (subst Ended (sym e) tt)

abbrev IsPlain : Move → Type 0
IsPlain Escapes = ⊥
IsPlain Closes = ⊥
IsPlain _ = Unit {0}

-- behind a backslash nothing closes and nothing begins an escape
escaped-plain : (b : ℕ) → IsPlain (move_of true b)
escaped-plain b = go (b == 34 || b == 92) (b == 116) (b == 110) (b == 102) (b == 114) (b == 10)
  where
    go : (p q r s t u : Bool) → IsPlain (cond p (Holds b) (cond q (Holds 9) (cond r (Holds 10) (cond s (Holds 12) (cond t (Holds 13) (cond u Breaks Wrong))))))
    go true q r s t u = tt
    go false true r s t u = tt
    go false false true s t u = tt
    go false false false true t u = tt
    go false false false false true u = tt
    go false false false false false true = tt
    go false false false false false false = tt

quote-held : (f : Bool) (b c : ℕ) (z u : Text) (m : ℕ) → move_of f b ≡ Holds c → Quoting false z u m → Quoting f (b ∷ z) (c ∷ u) (suc m)
quote-held false b c z u m h r = (omega (arith, r.0), plain b c h r.1)
quote-held true b c z u m h r = (omega (arith, r.0), (b, c, u, take m z, refl, refl, h, r.1))

quote-escaped : (b : ℕ) (z u : Text) (m : ℕ) → move_of false b ≡ Escapes → Quoting true z u m → Quoting false (b ∷ z) u (suc m)
quote-escaped b z u m h r =
    let e = r.1.0 in
    let c = r.1.1 in
    let s = r.1.3 in
    let base : Quotes (c ∷ r.1.2) (b ∷ e ∷ s) = escape b e c h r.1.6 r.1.7 in
    (omega (arith, r.0), subst (λ v. Quotes v (b ∷ take m z)) (sym r.1.5) (subst (λ t. Quotes (c ∷ r.1.2) (b ∷ t)) (sym r.1.4) base))

quote-step : (f : Bool) (b : ℕ) (z v : Text) (n : ℕ) (x : Move) → move_of f b ≡ x → ((g : Bool) (u : Text) (m : ℕ) → string_from g z ≡ closed u m → Quoting g z u m)
    → by_move x (λ g. string_from g z) ≡ closed v n → Quoting f (b ∷ z) v n
quote-step f b z v n (Holds c) h more e =
    let r = behind-closed (c ∷ []) 1 (string_from false z) v n e in
    subst (λ w. Quoting f (b ∷ z) w n) r.3 (subst (Quoting f (b ∷ z) (c ∷ r.0)) (sym (one_more r.1) ∙ r.4) (quote-held f b c z r.0 r.1 h (more false r.0 r.1 r.2)))
quote-step false b z v n Escapes h more e =
    let r = behind-closed [] 1 (string_from true z) v n e in
    subst (λ w. Quoting false (b ∷ z) w n) r.3 (subst (Quoting false (b ∷ z) r.0) (sym (one_more r.1) ∙ r.4) (quote-escaped b z r.0 r.1 h (more true r.0 r.1 r.2)))
quote-step true b z v n Escapes h more e = absurd (subst IsPlain h (escaped-plain b))
quote-step false b z v n Closes h more e =
    let r = closed-is [] v 1 n e in
    subst (λ w. Quoting false (b ∷ z) w n) r.0 (subst (Quoting false (b ∷ z) []) r.1 (omega arith, close b h))
quote-step true b z v n Closes h more e = absurd (subst IsPlain h (escaped-plain b))
quote-step f b z v n Breaks h more e = absurd (subst Ended (sym e) tt)
quote-step f b z v n Wrong h more e = absurd (subst Ended (sym e) tt)

quotes : (f : Bool) (z v : Text) (n : ℕ) → string_from f z ≡ closed v n → Quoting f z v n
quotes f [] v n e = absurd (subst Ended (sym e) tt)
quotes f (b ∷ z) v n e = quote-step f b z v n (move_of f b) refl (λ g u m. quotes g z u m) e

fits-string : (b : ℕ) (z : Text) → (b == 34) ≡ true → Fits (b ∷ z) (quoted (string_from false (drop 1 (b ∷ z))))
fits-string b z h = go (string_from false z) refl
  where
    go : (q : Quoted) → string_from false z ≡ q → Fits (b ∷ z) (quoted q)
    go (closed v n) e =
        let r = quotes false z v n e in
        subst (λ k. Fits (b ∷ z) (Token (tok.Str v) k)) (sym (one_more n)) (omega arith, omega (arith, r.0), refl, (take n z, ap (λ k. k ∷ take n z) (eqb-true b 34 h), r.1))
    go unclosed e = tt
    go (wrong n) e = tt

-- ---- all of them

fits-mark : (b : ℕ) (z : Text) → Fits (b ∷ z) (mark (b ∷ z))
fits-mark b z = go (is_step (b ∷ z)) (nat_le 4 (same_len 45 (b ∷ z))) (nat_le 4 (same_len 61 (b ∷ z))) (is_backslash_word (backslash_word (b ∷ z))) refl refl refl
  where
    go : (p q r s : Bool) → is_step (b ∷ z) ≡ p → nat_le 4 (same_len 45 (b ∷ z)) ≡ q → nat_le 4 (same_len 61 (b ∷ z)) ≡ r
        → Fits (b ∷ z) (cond p (step (b ∷ z)) (cond q (Token tok.Rule (same_len 45 (b ∷ z))) (cond r End (cond s (sign (backslash_word (b ∷ z))) (sign (longest (b ∷ z)))))))
    go true q r s e f g = fits-step b z e
    go false true r s e f g =
        let four = leb-true 4 (same_len 45 (b ∷ z)) f in
        (omega arith, prefix_len-le-length (λ k. k == 45) (b ∷ z), refl, same-spelled 45 (b ∷ z) four)
    go false false true s e f g = leb-true 4 (same_len 61 (b ∷ z)) g
    go false false false true e f g = fits-sign (backslash_word (b ∷ z)) (b ∷ z) (front-take _ (b ∷ z))
    go false false false false e f g = fits-longest (b ∷ z)

word-some : (b : ℕ) (z : Text) → is_word_byte b ≡ true → 1 ≤ word_len (b ∷ z)
word-some b z w = subst (λ n. 1 ≤ n) (sym (cond-true (is_word_byte b) (1 + word_len z) 0 w)) (omega arith)

pub fits : (b : ℕ) (z : Text) → Fits (b ∷ z) (piece_at (b ∷ z))
unfolding piece_at
fits b z = go (is_blank b) (opens_line b (slice_index (b ∷ z) 1)) (opens b (slice_index (b ∷ z) 1)) (begins_with_fairness (b ∷ z)) (is_word_byte b) (b == 34) refl refl refl refl refl refl
  where
    go : (p q r s t u : Bool) → is_blank b ≡ p → opens_line b (slice_index (b ∷ z) 1) ≡ q → opens b (slice_index (b ∷ z) 1) ≡ r → begins_with_fairness (b ∷ z) ≡ s → is_word_byte b ≡ t → (b == 34) ≡ u
        → Fits (b ∷ z) (cond p (Gap 1) (cond q (Gap (line_len (b ∷ z))) (cond r (comment (rest_len 0 (drop 2 (b ∷ z)))) (cond s (fairness (take 3 (b ∷ z))) (cond t (word (take (word_len (b ∷ z)) (b ∷ z))) (cond u (quoted (string_from false (drop 1 (b ∷ z)))) (mark (b ∷ z))))))))
    go true q r s t u e f g h i j = fits-blank b z e
    go false true r s t u e f g h i j = fits-line b z f
    go false false true s t u e f g h i j = fits-comment b z g
    go false false false true t u e f g h i j = fits-fairness (b ∷ z) h
    go false false false false true u e f g h i j = fits-word (word_len (b ∷ z)) (b ∷ z) (word-some b z i) (prefix_len-le-length is_word_byte (b ∷ z))
    go false false false false false true e f g h i j = fits-string b z j
    go false false false false false false e f g h i j = fits-mark b z
