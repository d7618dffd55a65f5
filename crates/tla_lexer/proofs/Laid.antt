-- The tokens and what lies between them are the text.
use Rattle.std.proofs.Common.{◌≡◌, ℕ, zero, suc, ◌+◌, ◌*◌, ◌/◌, ◌<◌, ◌≤◌, Bool, true, false, cond, nat_lt, ◌&&◌, ◌||◌, ◌==◌, ◌⊎◌, inl, inr, List, [], ◌∷◌, ◌++◌, length, take, drop, Option, Some, None, Result, Ok, Err, IfOk, refl, sym, subst, ap, ◌∙◌, arith, length-drop, length-take}
use Rattle.std.proofs.lemmas.List.{take-append-drop}
use Rattle.std.proofs.lemmas.Bool.{lt-ltb, eq-eqb}
use Rattle.tla_ast.specs.declared.place.Place.{Place}
use Rattle.tla_ast.specs.declared.token.Token.{Token}
use Rattle.tla_ast.specs.declared.token.Tokens.{Tokens}
use Rattle.tla_ast.specs.declared.fault.Kind.TheVariants.{TooLong}
use Rattle.tla_ast.specs.declared.fault.Fault.{Fault}
use Rattle.tla_ast.specs.declared.fault.Fault.TheVariants as fault
use Rattle.tla_ast.specs.Answers.{Answers}
use Rattle.tla_ast.specs.declared.limit.TheConstants.{MOST_BYTES}
use Rattle.tla_ast.specs.Place.{before}
use Rattle.tla_ast.specs.Listing.{is_last, RiseFrom, Rise, Ends, IsTokenList}
use Rattle.tla_lexer.specs.declared.piece.Piece.{Piece}
use Rattle.tla_lexer.specs.declared.piece.Piece.TheVariants as piece
use Rattle.tla_lexer.specs.declared.header.Found.{Found}
use Rattle.tla_lexer.specs.Signs.{Text}
use Rattle.tla_lexer.specs.Runs.{same_len}
use Rattle.tla_lexer.specs.Place.{moved, after, first}
use Rattle.tla_lexer.specs.Pieces.{piece_at}
use Rattle.tla_lexer.specs.Headers.{find}
use Rattle.tla_lexer.specs.Tokens.{Listed, with_front, token, tokens_from, headed, tokens_of, tokens_by, tokens}
use Rattle.tla_lexer.specs.Law.{Laid, gap, one, end, eof, TokensLie}
use Rattle.tla_lexer.proofs.Tokens.{from-gap, from-token, from-end, from-fault}
use Rattle.tla_lexer.proofs.Fits.{Fits, fits, end-spelled}

-- ---- choices between answers

abbrev Told : Listed → Type 0
Told (Ok ts) = Unit {0}
Told (Err e) = ⊥

abbrev with_front-ok-type : Token → List Token → Listed → Type 0
with_front-ok-type t ts f = with_front t f ≡ Ok ts → (us : List Token) × (f ≡ Ok us) × (ts ≡ t ∷ us)

ok-is : {ts us : List Token} → ◌≡◌ {A = Listed} (Ok ts) (Ok us) → ts ≡ us
ok-is e = cc

err-ok : (e : Fault) (ts : List Token) → ◌≡◌ {A = Listed} (Err e) (Ok ts) → ⊥
err-ok e ts h = subst Told (sym h) tt

with_front-ok : (t : Token) (ts : List Token) (f : Listed) → with_front-ok-type t ts f
with_front-ok t ts (Ok us) e = (us, refl, sym (ok-is e))
with_front-ok t ts (Err x) e = absurd (err-ok x ts e)

-- ---- the text is laid out

cut : {p : Place} {ts : List Token} (n : ℕ) (z : Text) → Laid p (take n z ++ drop n z) ts → Laid p z ts
cut {p} {ts} n z l = subst (λ y. Laid p y ts) (take-append-drop n z) l

some : (n : ℕ) (z : Text) → 1 ≤ n → n ≤ length z → 0 < length (take n z)
some n z one_n le = omega (arith, length-take {A = ℕ})

laid : (m : ℕ) (p : Place) (z : Text) (ts : List Token) → length z ≤ m → tokens_from 0 p z ≡ Ok ts → Laid p z ts
laid m p [] ts h e = subst (Laid p []) (ok-is e) eof
laid zero p (b ∷ z) ts h e = absurd (omega arith)
laid (suc m) p (b ∷ z) ts h e =
    go (piece_at (b ∷ z)) refl (fits b z) (λ n ns us one_n le f. laid m (after p (take n (b ∷ z))) (drop n (b ∷ z)) us (omega (arith, length-drop {A = ℕ})) f)
  where
    go : (x : Piece) → piece_at (b ∷ z) ≡ x → Fits (b ∷ z) (piece_at (b ∷ z))
        → ((n : ℕ) (t : Unit {0}) (us : List Token) → 1 ≤ n → n ≤ length (b ∷ z) → tokens_from 0 (after p (take n (b ∷ z))) (drop n (b ∷ z)) ≡ Ok us → Laid (after p (take n (b ∷ z))) (drop n (b ∷ z)) us)
        → Laid p (b ∷ z) ts
    go (piece.Gap n) x f more =
        let g : Fits (b ∷ z) (piece.Gap n) = subst (Fits (b ∷ z)) x f in
        let rest = more n tt ts g.0 g.1 (sym (from-gap n p (b ∷ z) x (omega arith) g.0 g.1) ∙ e) in
        cut n (b ∷ z) (gap (take n (b ∷ z)) (drop n (b ∷ z)) g.2 rest)
    go (piece.Token t n) x f more =
        let g : Fits (b ∷ z) (piece.Token t n) = subst (Fits (b ∷ z)) x f in
        let split = with_front-ok (token t p) ts _ (sym (from-token t n p (b ∷ z) x (omega arith) g.0 g.1) ∙ e) in
        let rest = more n tt split.0 g.0 g.1 split.1 in
        subst (Laid p (b ∷ z)) (sym split.2) (cut n (b ∷ z) (one t (take n (b ∷ z)) (drop n (b ∷ z)) (some n (b ∷ z) g.0 g.1) g.2 g.3 rest))
    go piece.End x f more =
        let g : Fits (b ∷ z) piece.End = subst (Fits (b ∷ z)) x f in
        let n = same_len 61 (b ∷ z) in
        subst (Laid p (b ∷ z)) (ok-is (sym (from-end p (b ∷ z) x (omega arith)) ∙ e)) (cut n (b ∷ z) (end (take n (b ∷ z)) (drop n (b ∷ z)) (end-spelled (b ∷ z) g)))
    go (piece.Fault k n) x f more = absurd (err-ok _ ts (sym (from-fault k n p (b ∷ z) x (omega arith)) ∙ e))

-- ---- places rise

or-first : (x y : Bool) → x ≡ true → (x || y) ≡ true
or-first x y e = rw e refl

or-second : (x y : Bool) → y ≡ true → (x || y) ≡ true
or-second true y e = refl
or-second false y e = e

both-true : (x y : Bool) → x ≡ true → y ≡ true → (x && y) ≡ true
both-true x y e f = rw e f

-- in numbers
abbrev Earlier : Place → Place → Type 0
Earlier p q = (p.line < q.line) ⊎ ((p.line ≡ q.line) × (p.column < q.column))

tab-more : (c : ℕ) → c < 8 * ((c + 7) / 8) + 1
tab-more c = omega arith

moved-more : (p : Place) (b : ℕ) → Earlier p (moved p b)
moved-more p b = go (b == 10) (b == 9)
  where
    go : (x y : Bool) → Earlier p (cond x (record { line = p.line + 1; column = 1 }) (cond y (record { line = p.line; column = 8 * ((p.column + 7) / 8) + 1 }) (record { line = p.line; column = p.column + 1 })))
    go true y = inl (omega arith)
    go false true = inr (refl, tab-more p.column)
    go false false = inr (refl, omega arith)

earlier-trans : (p q r : Place) → Earlier p q → Earlier q r → Earlier p r
earlier-trans p q r (inl a) (inl b) = inl (omega arith)
earlier-trans p q r (inl a) (inr b) = let e = b.0 in inl (omega arith)
earlier-trans p q r (inr a) (inl b) = let e = a.0 in inl (omega arith)
earlier-trans p q r (inr a) (inr b) = let e = a.1 in let f = b.1 in inr (a.0 ∙ b.0, omega arith)

after-more : (p q : Place) (s : Text) → Earlier p q → Earlier p (after q s)
after-more p q [] h = h
after-more p q (b ∷ s) h = after-more p (moved q b) s (earlier-trans p q (moved q b) h (moved-more q b))

after-some : (p : Place) (s : Text) → 0 < length s → Earlier p (after p s)
after-some p [] h = absurd (omega arith)
after-some p (b ∷ s) h = after-more p (moved p b) s (moved-more p b)

before-earlier : (p q : Place) → Earlier p q → before p q ≡ true
before-earlier p q (inl a) = or-first _ _ (lt-ltb p.line q.line a)
before-earlier p q (inr a) = or-second _ _ (both-true _ _ (eq-eqb p.line q.line a.0) (lt-ltb p.column q.column a.1))

rise-from : {q : Place} {z : Text} {ts : List Token} → Laid q z ts → (p : Place) → Earlier p q → RiseFrom p ts
rise-from {q} (gap s z g l) p h = rise-from l p (after-more p q s h)
rise-from {q} (one t s z some_s last sp l) p h = (before-earlier p q h, rise-from l q (after-some q s some_s))
rise-from {q} (end s z sp) p h = (before-earlier p q h, tt)
rise-from {q} eof p h = (before-earlier p q h, tt)

rise : {q : Place} {z : Text} {ts : List Token} → Laid q z ts → Rise ts
rise {q} (gap s z g l) = rise l
rise {q} (one t s z some_s last sp l) = rise-from l q (after-some q s some_s)
rise {q} (end s z sp) = tt
rise {q} eof = tt

ends-cons : (t : Token) (ts : List Token) → is_last t.tok ≡ false → Ends ts → Ends (t ∷ ts)
ends-cons t [] h e = absurd e
ends-cons t (u ∷ ts) h e = (h, e)

ends : {q : Place} {z : Text} {ts : List Token} → Laid q z ts → Ends ts
ends (gap s z g l) = ends l
ends {q} (one t s z some_s last sp l) = ends-cons (token t q) _ last (ends l)
ends (end s z sp) = refl
ends eof = refl

-- ---- the whole

refl-le : (n : ℕ) → n ≤ n
refl-le n = omega arith

abbrev Whole : Result Tokens Fault → Type 0
Whole (Ok ts) = Unit {0}
Whole (Err e) = ⊥

record-is : {us ts : Tokens} → ◌≡◌ {A = Result Tokens Fault} (Ok us) (Ok ts) → ts ≡ us
record-is e = cc

headed-ok : (name : Text) (header : Place) (f : Listed) (ts : Tokens) → headed name header f ≡ Ok ts → (ts.name ≡ name) × (ts.header ≡ header) × (f ≡ Ok ts.list)
headed-ok name header (Ok us) ts e = let h = record-is e in (ap (λ t. t.name) h, ap (λ t. t.header) h, sym (ap (λ t. Ok t.list) h))
headed-ok name header (Err x) ts e = absurd (subst Whole (sym e) tt)

pub tokens-lie : TokensLie
unfolding tokens tokens_of
tokens-lie bytes ts e = go (nat_lt MOST_BYTES (length bytes)) (find bytes) refl e
  where
    go : (b : Bool) (o : Option Found) → find bytes ≡ o → cond b (Err (fault.At first TooLong)) (tokens_by bytes o) ≡ Ok ts
        → (f : Found) × (find bytes ≡ Some f) × (ts.name ≡ f.header.name) × (ts.header ≡ after first (take f.at bytes))
        × Laid (after ts.header (take f.header.length (drop f.at bytes))) (drop (f.at + f.header.length) bytes) ts.list × IsTokenList ts.list
    go true o h e = absurd (subst Whole (sym e) tt)
    go false None h e = absurd (subst Whole (sym e) tt)
    go false (Some f) h e =
        let header = after first (take f.at bytes) in
        let split = headed-ok f.header.name header (tokens_from 0 (after header (take f.header.length (drop f.at bytes))) (drop (f.at + f.header.length) bytes)) ts e in
        let l = laid _ _ _ _ (refl-le (length (drop (f.at + f.header.length) bytes))) split.2 in
        (f, h, split.0, split.1, subst (λ p. Laid (after p (take f.header.length (drop f.at bytes))) (drop (f.at + f.header.length) bytes) ts.list) (sym split.1) l, (rise l, ends l))

pub list-of : (bytes : Text) (r : Result Tokens Fault) → Answers r (tokens bytes) → IfOk r (λ ts. IsTokenList ts.list)
list-of bytes (Ok ts) g = (tokens-lie bytes ts g).5
list-of bytes (Err e) g = tt
