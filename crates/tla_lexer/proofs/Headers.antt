-- Headers at an index.
use Rattle.std.proofs.Common.{◌≡◌, ℕ, suc, ◌+◌, ◌<◌, ◌≤◌, Bool, true, false, cond, nat_lt, [], ◌∷◌, length, take, drop, ◌-◌, get_or, Option, Some, None, refl, sym, ap, ◌∙◌, arith, add_assoc}
use Rattle.std.proofs.Math.Seq.{drop-cons}
use Rattle.std.proofs.Math.ListN.{drop_of_length-le}
use Rattle.std.proofs.lemmas.List.{take_rest}
use Rattle.std.proofs.lemmas.Bool.{le-ltb, ltb-false, cond-false}
use Rattle.tla_lexer.specs.declared.header.Header.{Header}
use Rattle.tla_lexer.specs.declared.header.Found.{Found}
use Rattle.tla_lexer.specs.Runs.{same_len}
use Rattle.tla_lexer.specs.Signs.{Text}
use Rattle.tla_lexer.specs.Headers.{title, with_dashes, header_at, farther, here_or, find}

with_dashes-none : (n m : ℕ) (o : Option Header) → with_dashes n o ≡ None → with_dashes m o ≡ None
with_dashes-none n m None e = refl
with_dashes-none n m (Some h) e = cc

fewer : (d : ℕ) (o : Option Header) → cond (nat_lt (suc d) 4) None (with_dashes (suc d) o) ≡ None → cond (nat_lt d 4) None (with_dashes d o) ≡ None
fewer d o e = go (nat_lt d 4) refl
  where
    go : (b : Bool) → nat_lt d 4 ≡ b → cond b None (with_dashes d o) ≡ None
    go true f = refl
    go false f =
        let many = ltb-false d 4 f in
        with_dashes-none (suc d) d o (sym (cond-false _ _ _ (le-ltb (suc d) 4 (omega arith))) ∙ e)

-- where none stands at a dash, none stands behind it
pub header-next : (z : Text) → header_at (45 ∷ z) ≡ None → header_at z ≡ None
unfolding header_at
header-next z e =
    let s : 1 + same_len 45 z ≡ suc (same_len 45 z) = omega arith in
    fewer (same_len 45 z) (title (drop (same_len 45 z) z)) (rw s at e)

farther-farther : (a b : ℕ) (o : Option Found) → farther a (farther b o) ≡ farther (a + b) o
farther-farther a b None = refl
farther-farther a b (Some f) = ap (λ n. Some (record { at = n; header = f.header })) (sym (add_assoc a b f.at))

rest-is : (bytes : Text) (at : ℕ) → at < length bytes → drop at bytes ≡ get_or bytes at 0 ∷ drop (at + 1) bytes
rest-is bytes at h = let s : at + 1 ≡ suc at = omega arith in rw s (drop-cons bytes at 0 h)

find-cons : (z : Text) (b : ℕ) → find (b ∷ z) ≡ here_or (header_at (b ∷ z)) (farther 1 (find z))
unfolding find
find-cons z b = refl

find-at : (bytes : Text) (at : ℕ) → at < length bytes → find (drop at bytes) ≡ here_or (header_at (drop at bytes)) (farther 1 (find (drop (at + 1) bytes)))
find-at bytes at h = rw (rest-is bytes at h) (find-cons (drop (at + 1) bytes) (get_or bytes at 0))

pub find-here : (bytes : Text) (at : ℕ) (header : Header) → at < length bytes → header_at (drop at bytes) ≡ Some header → farther at (find (drop at bytes)) ≡ Some (record { at = at; header = header })
find-here bytes at header h e =
    let zero_more : at + 0 ≡ at = omega arith in
    ap (farther at) (find-at bytes at h ∙ ap (λ o. here_or o (farther 1 (find (drop (at + 1) bytes)))) e) ∙ ap (λ n. Some (record { at = n; header = header })) zero_more

pub find-later : (bytes : Text) (at : ℕ) → at < length bytes → header_at (drop at bytes) ≡ None → farther at (find (drop at bytes)) ≡ farther (at + 1) (find (drop (at + 1) bytes))
find-later bytes at h e =
    ap (farther at) (find-at bytes at h ∙ ap (λ o. here_or o (farther 1 (find (drop (at + 1) bytes)))) e) ∙ farther-farther at 1 _

pub none-next : (bytes : Text) (at : ℕ) → at < length bytes → header_at (drop at bytes) ≡ None → get_or bytes at 0 ≡ 45 → header_at (drop (at + 1) bytes) ≡ None
none-next bytes at h e dash = header-next (drop (at + 1) bytes) (rw (sym dash) (rw (sym (rest-is bytes at h)) e))

find-none : find [] ≡ None
unfolding find
find-none = refl

pub find-end : (bytes : Text) (at : ℕ) → length bytes ≤ at → farther at (find (drop at bytes)) ≡ None
find-end bytes at h = ap (λ z. farther at (find z)) (drop_of_length-le bytes h) ∙ ap (farther at) find-none

pub at-rest : (bytes : Text) (at : ℕ) (o : Option Header) → o ≡ header_at (take (length bytes - at) (drop at bytes)) → header_at (drop at bytes) ≡ o
at-rest bytes at o e = ap header_at (sym (take_rest bytes at)) ∙ sym e
