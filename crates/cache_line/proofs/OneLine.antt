-- The text of a line has no line feed.
use Rattle.std.proofs.Common.{◌≡◌, ℕ, zero, suc, ◌+◌, ◌/◌, ◌%◌, ◌<◌, ◌==◌, ◌&&◌, List, [], ◌∷◌, ◌++◌, Bool, true, false, cond, inl, inr, nat_lt, refl, ◌∙◌, decimal, arith}
use Rattle.std.specs.Prelude.{codes}
use Rattle.std.specs.Fmt.{digits, digits_onto, digit_glyph}
use Rattle.std.proofs.lemmas.Bool.{and_parts, cases_lt, cases_eq, ne_eqb}
use Rattle.std.proofs.lemmas.List.Folds.{list_all-append}
use Rattle.json.specs.Print.{escape_byte, escape, quoted}
use Rattle.json.proofs.Printed.Strings.{escape_byte_plain}
use Rattle.serde_json.specs.Data.{Data, string, array, Members, no_members, member}
use Rattle.serde_json.specs.Written.{comma_if, compact_text, items_text, members_text}
use Rattle.cache_line.specs.declared.line.Line.{Line}
use Rattle.cache_line.specs.Lines.{is_one_line, items_for, line_text}

both : (xs ys : List ℕ) → is_one_line xs ≡ true → is_one_line ys ≡ true → is_one_line (xs ++ ys) ≡ true
both xs ys p q = list_all-append _ xs ys ∙ rw (p, q) refl

either : (b : Bool) (xs ys : List ℕ) → is_one_line xs ≡ true → is_one_line ys ≡ true → is_one_line (cond b xs ys) ≡ true
either true xs ys p q = p
either false xs ys p q = q

other : (x : ℕ) (xs : List ℕ) → (x ≡ 10 → ⊥) → is_one_line xs ≡ true → is_one_line (x ∷ xs) ≡ true
other x xs apart h = rw (ne_eqb x 10 apart, h) refl

-- ---- escapes

escapes_below : ℕ → Bool
escapes_below zero = true
escapes_below (suc n) = is_one_line (escape_byte n) && escapes_below n

escape_below : (n : ℕ) → escapes_below n ≡ true → (x : ℕ) → x < n → is_one_line (escape_byte x) ≡ true
unfolding escapes_below
escape_below zero e x h = absurd (omega arith)
escape_below (suc n) e x h =
    let p = and_parts _ _ e in
    elim (cases_eq x n) [ inl same ↦ rw same p.0 | inr apart ↦ escape_below n p.1 x (omega arith) ]

low_escapes : escapes_below 93 ≡ true
unfolding escapes_below escape_byte
low_escapes = refl

escape_one : (x : ℕ) → is_one_line (escape_byte x) ≡ true
escape_one x = elim (cases_lt x 93) [
  | inl low ↦ escape_below 93 low_escapes x low
  | inr high ↦ rw (escape_byte_plain x (λ e. omega arith) (λ e. omega arith) (omega arith)) (other x [] (λ e. omega arith) refl)
]

escapes_one : (s : List ℕ) → is_one_line (escape s) ≡ true
escapes_one [] = refl
escapes_one (x ∷ s) = both (escape_byte x) (escape s) (escape_one x) (escapes_one s)

quoted_one : (s : List ℕ) → is_one_line (quoted s) ≡ true
quoted_one s = both (34 ∷ escape s) (34 ∷ []) (escapes_one s) refl

-- ---- numbers

glyph_apart : (b : Bool) (d : ℕ) → cond b (48 + d) (87 + d) ≡ 10 → ⊥
glyph_apart true d e = omega arith
glyph_apart false d e = omega arith

digits_one : (k n : ℕ) (acc : List ℕ) → is_one_line acc ≡ true → is_one_line (digits_onto k 10 false n acc) ≡ true
digits_one zero n acc h = h
digits_one (suc k) n acc h =
    let d = digit_glyph false (n % 10) in
    let more = other d acc (glyph_apart (nat_lt (n % 10) 10) (n % 10)) h in
    either (n / 10 == 0) (d ∷ acc) (digits_onto k 10 false (n / 10) (d ∷ acc)) more (digits_one k (n / 10) (d ∷ acc) more)

decimal_one : (n : ℕ) → is_one_line (decimal n) ≡ true
unfolding digits
decimal_one n = digits_one 64 n [] refl

comma_one : (later : Bool) → is_one_line (comma_if later) ≡ true
comma_one true = refl
comma_one false = refl

items_one : (later : Bool) (ns : List ℕ) → is_one_line (items_text later (items_for ns)) ≡ true
items_one later [] = refl
items_one later (n ∷ ns) = both (comma_if later) _ (comma_one later) (both (decimal n) _ (decimal_one n) (items_one true ns))

-- ---- lines

member_one : (later : Bool) (k : List ℕ) (d : Data) (ms : Members) → is_one_line (compact_text d) ≡ true → is_one_line (members_text true ms) ≡ true → is_one_line (members_text later (member k d ms)) ≡ true
member_one later k d ms value rest = both (comma_if later) _ (comma_one later) (both (quoted k) _ (quoted_one k) (both (compact_text d) _ value rest))

pub text_one : (l : Line) → is_one_line (line_text l) ≡ true
unfolding line_text
text_one l =
    let o = array (items_for l.obligation) in
    let p = array (items_for l.proof) in
    let last = member (codes "p") p no_members in
    let proof = member_one true (codes "p") p no_members (items_one false l.proof) refl in
    let obligation = member_one true (codes "o") o last (items_one false l.obligation) proof in
    member_one false (codes "k") (string l.key) (member (codes "o") o last) (quoted_one l.key) obligation
