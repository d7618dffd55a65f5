-- The tokens at a place of the bytes.
use Rattle.std.proofs.Common.{◌≡◌, ℕ, zero, suc, ◌+◌, ◌-◌, ◌<◌, ◌≤◌, Bool, true, false, nat_lt, List, [], ◌∷◌, ◌++◌, length, take, drop, Ok, Err, refl, sym, subst, ap, ◌∙◌, arith, length-drop, length-take, append_assoc}
use Rattle.std.proofs.lemmas.List.{take_rest, drop-drop, length-take-le, take_all}
use Rattle.std.proofs.lemmas.Bool.{ltb-true, ltb-false, lt-ltb, le-ltb, cond-true, cond-false}
use Rattle.tla_ast.specs.declared.place.Place.{Place}
use Rattle.tla_ast.specs.declared.token.Token.{Token}
use Rattle.tla_ast.specs.declared.token.Tok.{Tok}
use Rattle.tla_ast.specs.declared.token.Tok.TheVariants as tok
use Rattle.tla_ast.specs.declared.fault.Kind.{Kind}
use Rattle.tla_ast.specs.declared.fault.Kind.TheVariants.{TooLong}
use Rattle.tla_ast.specs.declared.fault.Fault.TheVariants as fault
use Rattle.tla_ast.specs.Answers.{Answers}
use Rattle.tla_ast.specs.declared.limit.TheConstants.{MOST_BYTES}
use Rattle.tla_lexer.specs.declared.piece.Piece.TheVariants as piece
use Rattle.tla_lexer.specs.declared.header.Found.{Found}
use Rattle.tla_lexer.specs.Signs.{Text}
use Rattle.tla_lexer.specs.Place.{moved, after, first}
use Rattle.tla_lexer.specs.Pieces.{piece_at}
use Rattle.tla_lexer.specs.Headers.{find}
use Rattle.tla_lexer.specs.Tokens.{Listed, with_front, token, tokens_from, behind, headed, tokens_of, tokens_by, tokens}

pub from-drop : (left : ℕ) (p : Place) (z : Text) → left ≤ length z → tokens_from left p z ≡ tokens_from 0 (after p (take left z)) (drop left z)
from-drop zero p z h = refl
from-drop (suc left) p [] h = absurd (omega arith)
from-drop (suc left) p (b ∷ z) h = from-drop left (moved p b) z (omega arith)

pub from-gap : (n : ℕ) (p : Place) (z : Text) → piece_at z ≡ piece.Gap n → 0 < length z → 1 ≤ n → n ≤ length z → tokens_from 0 p z ≡ tokens_from 0 (after p (take n z)) (drop n z)
from-gap n p [] e h one le = absurd (omega arith)
from-gap zero p (b ∷ z) e h one le = absurd (omega arith)
from-gap (suc n) p (b ∷ z) e h one le =
    let back : suc n - 1 ≡ n = omega arith in
    rw e (ap (λ k. tokens_from k (moved p b) z) back ∙ from-drop n (moved p b) z (omega arith))

pub from-token : (t : Tok) (n : ℕ) (p : Place) (z : Text) → piece_at z ≡ piece.Token t n → 0 < length z → 1 ≤ n → n ≤ length z → tokens_from 0 p z ≡ with_front (token t p) (tokens_from 0 (after p (take n z)) (drop n z))
from-token t n p [] e h one le = absurd (omega arith)
from-token t zero p (b ∷ z) e h one le = absurd (omega arith)
from-token t (suc n) p (b ∷ z) e h one le =
    let back : suc n - 1 ≡ n = omega arith in
    rw e (ap (λ k. with_front (token t p) (tokens_from k (moved p b) z)) back ∙ ap (with_front (token t p)) (from-drop n (moved p b) z (omega arith)))

pub from-end : (p : Place) (z : Text) → piece_at z ≡ piece.End → 0 < length z → tokens_from 0 p z ≡ Ok (token tok.End p ∷ [])
from-end p [] e h = absurd (omega arith)
from-end p (b ∷ z) e h = rw e refl

pub from-fault : (k : Kind) (n : ℕ) (p : Place) (z : Text) → piece_at z ≡ piece.Fault k n → 0 < length z → tokens_from 0 p z ≡ Err (fault.At (after p (take n z)) k)
from-fault k n p [] e h = absurd (omega arith)
from-fault k n p (b ∷ z) e h = rw e refl

pub behind-front : (ts : List Token) (t : Token) (f : Listed) → behind ts (with_front t f) ≡ behind (ts ++ t ∷ []) f
behind-front ts t (Ok more) = ap Ok (sym (append_assoc ts (t ∷ []) more))
behind-front ts t (Err e) = refl

pub behind-none : (f : Listed) → f ≡ behind [] f
behind-none (Ok more) = refl
behind-none (Err e) = refl

-- ---- at an index

rest-is : (bytes : Text) (at : ℕ) → take (length bytes - at) (drop at bytes) ≡ drop at bytes
rest-is bytes at = take_rest bytes at

moves : (bytes : Text) (at n : ℕ) (p q : Place) → q ≡ after p (take (at + n - at) (drop at bytes)) → q ≡ after p (take n (drop at bytes))
moves bytes at n p q e = let same : at + n - at ≡ n = omega arith in e ∙ ap (λ k. after p (take k (drop at bytes))) same

some : (bytes : Text) (at : ℕ) → at < length bytes → 0 < length (drop at bytes)
some bytes at h = omega (arith, length-drop {A = ℕ})

fits : (bytes : Text) (at n : ℕ) → n ≤ length (take (length bytes - at) (drop at bytes)) → n ≤ length (drop at bytes)
fits bytes at n h = rw (rest-is bytes at) at h

pub room : (bytes : Text) (at n : ℕ) → at ≤ length bytes → n ≤ length (take (length bytes - at) (drop at bytes)) → at + n ≤ length bytes
room bytes at n le h = let f = fits bytes at n h in omega (arith, length-drop {A = ℕ})

pub gap-at : (bytes : Text) (at n : ℕ) (p q : Place) → piece_at (take (length bytes - at) (drop at bytes)) ≡ piece.Gap n → at < length bytes → 1 ≤ n
    → n ≤ length (take (length bytes - at) (drop at bytes)) → q ≡ after p (take (at + n - at) (drop at bytes))
    → tokens_from 0 p (drop at bytes) ≡ tokens_from 0 q (drop (at + n) bytes)
gap-at bytes at n p q e h one le is =
    from-gap n p (drop at bytes) (ap piece_at (sym (rest-is bytes at)) ∙ e) (some bytes at h) one (fits bytes at n le)
    ∙ ap (λ r. tokens_from 0 r (drop n (drop at bytes))) (sym (moves bytes at n p q is))
    ∙ ap (tokens_from 0 q) (drop-drop n at bytes)

pub token-at : (t : Tok) (bytes : Text) (at n : ℕ) (p q : Place) → piece_at (take (length bytes - at) (drop at bytes)) ≡ piece.Token t n → at < length bytes → 1 ≤ n
    → n ≤ length (take (length bytes - at) (drop at bytes)) → q ≡ after p (take (at + n - at) (drop at bytes))
    → tokens_from 0 p (drop at bytes) ≡ with_front (token t p) (tokens_from 0 q (drop (at + n) bytes))
token-at t bytes at n p q e h one le is =
    from-token t n p (drop at bytes) (ap piece_at (sym (rest-is bytes at)) ∙ e) (some bytes at h) one (fits bytes at n le)
    ∙ ap (λ r. with_front (token t p) (tokens_from 0 r (drop n (drop at bytes)))) (sym (moves bytes at n p q is))
    ∙ ap (λ z. with_front (token t p) (tokens_from 0 q z)) (drop-drop n at bytes)

pub end-at : (bytes : Text) (at : ℕ) (p : Place) → piece_at (take (length bytes - at) (drop at bytes)) ≡ piece.End → at < length bytes → tokens_from 0 p (drop at bytes) ≡ Ok (token tok.End p ∷ [])
end-at bytes at p e h = from-end p (drop at bytes) (ap piece_at (sym (rest-is bytes at)) ∙ e) (some bytes at h)

pub fault-at : (k : Kind) (bytes : Text) (at n : ℕ) (p q : Place) → piece_at (take (length bytes - at) (drop at bytes)) ≡ piece.Fault k n → at < length bytes
    → q ≡ after p (take (at + n - at) (drop at bytes)) → tokens_from 0 p (drop at bytes) ≡ Err (fault.At q k)
fault-at k bytes at n p q e h is =
    from-fault k n p (drop at bytes) (ap piece_at (sym (rest-is bytes at)) ∙ e) (some bytes at h)
    ∙ ap (λ r. Err (fault.At r k)) (sym (moves bytes at n p q is))

pub part-len : (bytes : Text) (at n : ℕ) → length (take (at + n - at) (drop at bytes)) ≤ n
part-len bytes at n = omega (arith, length-take {A = ℕ})

-- ---- the whole

pub answers-headed : (name : Text) (header : Place) (r f : Listed) → Answers r f → Answers (headed name header r) (headed name header f)
answers-headed name header (Ok ts) f e = ap (headed name header) e
answers-headed name header (Err x) f e = λ h. ap (headed name header) (e h)

pub too-long : (bytes : Text) → MOST_BYTES < length bytes → tokens bytes ≡ Err (fault.At first TooLong)
unfolding tokens
too-long bytes h = cond-true _ _ _ (lt-ltb MOST_BYTES (length bytes) h)

-- a front of the text that is too long itself is read as the whole text
pub front-tokens : (most : ℕ) (bytes : Text) → MOST_BYTES < most → tokens (take most bytes) ≡ tokens bytes
front-tokens most bytes h = go (nat_lt most (length bytes)) refl
  where
    go : (b : Bool) → nat_lt most (length bytes) ≡ b → tokens (take most bytes) ≡ tokens bytes
    go true e =
        let over : most < length bytes = ltb-true most (length bytes) e in
        let long : length (take most bytes) ≡ most = length-take-le most bytes (omega (arith, over)) in
        too-long (take most bytes) (omega (arith, h, long)) ∙ sym (too-long bytes (omega (arith, h, over)))
    go false e = ap tokens (take_all most bytes (ltb-false most (length bytes) e))

pub by-header : (bytes : Text) → length bytes ≤ MOST_BYTES → tokens bytes ≡ tokens_by bytes (find bytes)
unfolding tokens
by-header bytes h = cond-false _ _ _ (le-ltb MOST_BYTES (length bytes) h)

pub tokens_of-is : (bytes : Text) (f : Found) (header begin : Place) (r : Listed) → header ≡ after first (take f.at bytes) → begin ≡ after header (take f.header.length (drop f.at bytes))
    → Answers r (tokens_from 0 begin (drop (f.at + f.header.length) bytes)) → Answers (headed f.header.name header r) (tokens_of bytes f)
unfolding tokens_of
tokens_of-is bytes f header begin r eh eb l =
    let P : Place → Place → Type 0 = λ h b. Answers (headed f.header.name header r) (headed f.header.name h (tokens_from 0 b (drop (f.at + f.header.length) bytes))) in
    let there : P header begin = answers-headed f.header.name header r _ l in
    let moved_begin : P header (after header (take f.header.length (drop f.at bytes))) = subst (P header) eb there in
    subst (λ h. P h (after h (take f.header.length (drop f.at bytes)))) eh moved_begin
