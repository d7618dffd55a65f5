-- Outcomes, tests and tokens: the lemmas that every proof on readers stands on.
use Rattle.std.proofs.Common.{◌≡◌, ℕ, zero, suc, Bool, true, false, if◌then◌else◌, [], ◌∷◌, Ok, Err, refl, ap, ◌∙◌, rules}
use Rattle.std.proofs.lemmas.Bool.{true≢false}
use denote.Enum.Bare.{same_true, true_same}
use Rattle.tla_ast.specs.declared.place.Place.{Place}
use Rattle.tla_ast.specs.declared.token.Tok.{Tok}
use Rattle.tla_ast.specs.declared.token.Tok.TheVariants as tok
use Rattle.tla_ast.specs.declared.fault.Fault.{Fault}
use Rattle.tla_ast.specs.Listing.{is_last}
use Rattle.token_reader.specs.contracts.mark.Mark.{the_type}
use Rattle.token_reader.specs.declared.mark.Mark.{Mark}
use Rattle.token_reader.specs.declared.setting.Setting.{Setting}
use Rattle.token_reader.specs.Marks.{mark_of, same_mark, is_final}
use Rattle.token_reader.specs.Input.{Tokens, Outcome, Reader, and_then, ◌>>=◌, first, next, here, mark, sees, opening, after}

-- ---- outcomes

-- a step that was made, and what came after it
pub got : {A B : Type 0} {o : Outcome A} {f : A → Reader B} {b : B} {rest : Tokens} {X : Type 0} → and_then o f ≡ Ok (b, rest)
    → ((a : A) (mid : Tokens) → o ≡ Ok (a, mid) → f a mid ≡ Ok (b, rest) → X) → X
got {o = Ok p} e k = k p.0 p.1 refl e
got {o = Err x} e k = absurd (cc)

-- no outcome is a fault and a result
pub refused : {A : Type 0} {f : Fault} {a : A} {rest : Tokens} {X : Type 0} → (let x : Outcome A = Err f in x) ≡ Ok (a, rest) → X
refused e = absurd (cc)

-- what an outcome is
pub same-end : {A : Type 0} (a b : A) (ts us : Tokens) → (let x : Outcome A = Ok (a, ts) in x) ≡ Ok (b, us) → (a ≡ b) × (ts ≡ us)
same-end {A = A} a b ts us e = (ap (λ p. p.0) pair, ap (λ p. p.1) pair)
  where
    of_ok : Outcome A → A × Tokens
    of_ok (Ok p) = p
    of_ok (Err x) = (a, ts)

    pair : (let p : A × Tokens = (a, ts) in p) ≡ (b, us)
    pair = ap of_ok e

-- what begins a bracket has been read
pub begun : (left : ℕ) {B : Type 0} (ts : Tokens) (f : Place → Reader B) {b : B} {rest : Tokens} {X : Type 0} → (opening left >>= f) ts ≡ Ok (b, rest) → (f (here ts) (next ts) ≡ Ok (b, rest) → X) → X
unfolding opening
begun zero ts f e go = absurd (cc)
begun (suc n) ts f e go = go e

-- ---- tests

pub by-test : {A : Type 0} {b : Bool} {x y z : A} {X : Type 0} → (if b then x else y) ≡ z → (b ≡ true → x ≡ z → X) → (b ≡ false → y ≡ z → X) → X
by-test {b = true} e yes-case no-case = yes-case refl e
by-test {b = false} e yes-case no-case = no-case refl e

pub by-reader : {A : Type 0} {b : Bool} (p q : Reader A) {us : Tokens} {z : Outcome A} {X : Type 0} → (if b then p else q) us ≡ z → (b ≡ true → p us ≡ z → X) → (b ≡ false → q us ≡ z → X) → X
by-reader {b = true} p q e yes-case no-case = yes-case refl e
by-reader {b = false} p q e yes-case no-case = no-case refl e

pub after-no : (s : Setting) (k : Mark) (ts : Tokens) → sees s k ts ≡ false → after s k ts ≡ ts
unfolding after
after-no s k ts e = ap (λ b. if b then next ts else ts) e

pub after-yes : (s : Setting) (k : Mark) (ts : Tokens) → sees s k ts ≡ true → after s k ts ≡ next ts
unfolding after
after-yes s k ts e = ap (λ b. if b then next ts else ts) e

-- ---- tokens

-- a mark that ends no list is that of a token that ends none
pub not-last : (t : Tok) → is_final (mark_of t) ≡ false → is_last t ≡ false
not-last tok.End h = absurd (true≢false h)
not-last tok.Eof h = absurd (true≢false h)
not-last _ h = refl

pub not-empty : (ts : Tokens) → is_last (first ts).tok ≡ false → ts ≡ first ts ∷ next ts
not-empty [] h = absurd (true≢false h)
not-empty (t ∷ ts) h = refl

pub marks-same : (a b : Mark) → same_mark a b ≡ true → a ≡ b
unfolding same_mark
marks-same a b e = same_true the_type (search rules) a b e

pub same-marks : (a b : Mark) → a ≡ b → same_mark a b ≡ true
unfolding same_mark
same-marks a b e = true_same the_type a b e

-- the next token ends no list, where its mark is known
pub not-final : (ts : Tokens) (k : Mark) → is_final k ≡ false → mark ts ≡ k → is_last (first ts).tok ≡ false
unfolding mark
not-final ts k kept is = not-last (first ts).tok (ap is_final is ∙ kept)
