-- A fault stands at a byte of the text or at its end.
use Rattle.std.proofs.Common.{◌≡◌, ℕ, zero, suc, ◌+◌, ◌≤◌, Bool, true, false, cond, nat_lt, List, [], ◌∷◌, ◌++◌, length, take, drop, Option, Some, None, Result, Ok, Err, refl, sym, subst, ap, ◌∙◌, arith, length-drop, append_assoc}
use Rattle.std.proofs.lemmas.List.{take-append-drop, drop-drop}
use Rattle.tla_ast.specs.declared.place.Place.{Place}
use Rattle.tla_ast.specs.declared.token.Token.{Token}
use Rattle.tla_ast.specs.declared.token.Tokens.{Tokens}
use Rattle.tla_ast.specs.declared.fault.Kind.TheVariants.{TooLong, NoModule}
use Rattle.tla_ast.specs.declared.fault.Fault.{Fault}
use Rattle.tla_ast.specs.declared.fault.Fault.TheVariants as fault
use Rattle.tla_ast.specs.declared.limit.TheConstants.{MOST_BYTES}
use Rattle.tla_lexer.specs.declared.piece.Piece.{Piece}
use Rattle.tla_lexer.specs.declared.piece.Piece.TheVariants as piece
use Rattle.tla_lexer.specs.declared.header.Found.{Found}
use Rattle.tla_lexer.specs.Signs.{Text}
use Rattle.tla_lexer.specs.Place.{moved, after, first}
use Rattle.tla_lexer.specs.Pieces.{piece_at}
use Rattle.tla_lexer.specs.Headers.{find}
use Rattle.tla_lexer.specs.Tokens.{Listed, with_front, token, tokens_from, headed, tokens_of, tokens_by, tokens}
use Rattle.tla_lexer.specs.Law.{FaultIn, FaultsLie}
use Rattle.tla_lexer.proofs.Tokens.{from-gap, from-token, from-end, from-fault}
use Rattle.tla_lexer.proofs.Fits.{Fits, fits}

abbrev Fails : {A : Type 0} → Result A Fault → Type 0
Fails (Ok a) = ⊥
Fails (Err e) = Unit {0}

ok-err : {A B : Type 0} (a : A) (e : Fault) → ◌≡◌ {A = Result A Fault} (Ok a) (Err e) → B
ok-err a e h = absurd (subst Fails (sym h) tt)

err-is : {A : Type 0} {d e : Fault} → ◌≡◌ {A = Result A Fault} (Err d) (Err e) → d ≡ e
err-is h = cc

with_front-err : (t : Token) (f : Listed) (e : Fault) → with_front t f ≡ Err e → f ≡ Err e
with_front-err t (Ok us) e h = ok-err (t ∷ us) e h
with_front-err t (Err d) e h = ap Err (err-is {A = List Token} h)

headed-err : (name : Text) (header : Place) (f : Listed) (e : Fault) → headed name header f ≡ Err e → f ≡ Err e
headed-err name header (Ok us) e h = ok-err _ e h
headed-err name header (Err d) e h = ap Err (err-is {A = Tokens} h)

after-append : (p : Place) (s t : Text) → after p (s ++ t) ≡ after (after p s) t
after-append p [] t = refl
after-append p (b ∷ s) t = after-append (moved p b) s t

-- a fault behind so many bytes
behind-bytes : (n : ℕ) (p : Place) (z : Text) (e : Fault) → FaultIn (after p (take n z)) (drop n z) e → FaultIn p z e
behind-bytes n p z e (q, k, front, rest, is, split, at) =
    (q, k, take n z ++ front, rest, is, sym (take-append-drop n z) ∙ ap (λ r. take n z ++ r) split ∙ sym (append_assoc (take n z) front rest), at ∙ sym (after-append p (take n z) front))

lies : (m : ℕ) (p : Place) (z : Text) (e : Fault) → length z ≤ m → tokens_from 0 p z ≡ Err e → FaultIn p z e
lies m p [] e h f = ok-err _ e f
lies zero p (b ∷ z) e h f = absurd (omega arith)
lies (suc m) p (b ∷ z) e h f =
    go (piece_at (b ∷ z)) refl (fits b z) (λ n one_n le g. lies m (after p (take n (b ∷ z))) (drop n (b ∷ z)) e (omega (arith, length-drop {A = ℕ})) g)
  where
    go : (x : Piece) → piece_at (b ∷ z) ≡ x → Fits (b ∷ z) (piece_at (b ∷ z))
        → ((n : ℕ) → 1 ≤ n → n ≤ length (b ∷ z) → tokens_from 0 (after p (take n (b ∷ z))) (drop n (b ∷ z)) ≡ Err e → FaultIn (after p (take n (b ∷ z))) (drop n (b ∷ z)) e)
        → FaultIn p (b ∷ z) e
    go (piece.Gap n) x g more =
        let w : Fits (b ∷ z) (piece.Gap n) = subst (Fits (b ∷ z)) x g in
        behind-bytes n p (b ∷ z) e (more n w.0 w.1 (sym (from-gap n p (b ∷ z) x (omega arith) w.0 w.1) ∙ f))
    go (piece.Token t n) x g more =
        let w : Fits (b ∷ z) (piece.Token t n) = subst (Fits (b ∷ z)) x g in
        behind-bytes n p (b ∷ z) e (more n w.0 w.1 (with_front-err (token t p) _ e (sym (from-token t n p (b ∷ z) x (omega arith) w.0 w.1) ∙ f)))
    go piece.End x g more = ok-err _ e (sym (from-end p (b ∷ z) x (omega arith)) ∙ f)
    go (piece.Fault k n) x g more =
        (after p (take n (b ∷ z)), k, take n (b ∷ z), drop n (b ∷ z), sym (err-is {A = List Token} (sym (from-fault k n p (b ∷ z) x (omega arith)) ∙ f)), sym (take-append-drop n (b ∷ z)), refl)

pub faults-lie : FaultsLie
unfolding tokens tokens_of
faults-lie bytes e h = go (nat_lt MOST_BYTES (length bytes)) (find bytes) h
  where
    go : (b : Bool) (o : Option Found) → cond b (Err (fault.At first TooLong)) (tokens_by bytes o) ≡ Err e → FaultIn first bytes e
    go true o f = (first, TooLong, [], bytes, sym (err-is {A = Tokens} f), refl, refl)
    go false None f = (first, NoModule, [], bytes, sym (err-is {A = Tokens} f), refl, refl)
    go false (Some w) f =
        let header = after first (take w.at bytes) in
        let l = lies (length (drop (w.at + w.header.length) bytes)) _ _ e (omega arith) (headed-err w.header.name header _ e f) in
        behind-bytes w.at first bytes e (behind-bytes w.header.length header (drop w.at bytes) e
        (subst (λ z. FaultIn (after header (take w.header.length (drop w.at bytes))) z e) (sym (drop-drop w.header.length w.at bytes)) l))
