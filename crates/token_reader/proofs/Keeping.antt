-- What each small reader leaves, and where its fault stands.
use Rattle.std.proofs.Common.{◌≡◌, ℕ, zero, suc, Bool, true, false, if◌then◌else◌, [], ◌∷◌, ◌++◌, length, Ok, Err, refl, sym, ap, ◌∙◌, append_assoc, ◌||◌}
use Rattle.std.proofs.lemmas.Bool.{true≢false, and_parts}
use Rattle.tla_ast.specs.declared.place.Place.{Place}
use Rattle.tla_ast.specs.declared.fault.Fault.{Fault}
use Rattle.tla_ast.specs.declared.fault.Fault.TheVariants as fault
use Rattle.tla_ast.specs.declared.fault.Kind.{Kind}
use Rattle.tla_ast.specs.declared.fault.Kind.TheVariants.{Expected, TooDeep, Unsupported}
use Rattle.tla_ast.specs.Listing.{Ends, is_last}
use Rattle.token_reader.specs.declared.mark.Mark.{Mark}
use Rattle.token_reader.specs.declared.mark.Mark.TheVariants as m
use Rattle.token_reader.specs.declared.setting.Setting.{Setting}
use Rattle.token_reader.specs.declared.setting.Stop.{Stop}
use Rattle.token_reader.specs.declared.setting.Stop.TheVariants as stop
use Rattle.token_reader.specs.Marks.{spelling, is_final}
use Rattle.token_reader.specs.Input.{Tokens, Outcome, Reader, and_then, ◌>>=◌, pure, refuse, first, next, here, mark, sees, is_refused, refusal, begins, too_deep, after, eat, expect, name, declared, opening}
use Rattle.token_reader.specs.Lists.{gathered, gathered_from, names, ask}
use Rattle.token_reader.specs.Faults.{StandsIn, is_of_expressions, FaultIn, LeftOf, Keeps}
use Rattle.token_reader.proofs.Steps.{marks-same, not-final}

-- ---- parts of a list

pub stays : (ts : Tokens) → Ends ts → LeftOf ts ts
stays ts h = record { used = []; is = refl; ends = h }

pub further : {ts mid rest : Tokens} → LeftOf ts mid → LeftOf mid rest → LeftOf ts rest
further {rest = rest} a b = record { used = a.used ++ b.used; is = a.is ∙ ap (λ l. a.used ++ l) b.is ∙ sym (append_assoc a.used b.used rest); ends = b.ends }

pub stands-behind : {ts mid : Tokens} {p : Place} → LeftOf ts mid → StandsIn mid p → StandsIn ts p
stands-behind a s = record {
  before = a.used ++ s.before;
  token = s.token;
  after = s.after;
  is = a.is ∙ ap (λ l. a.used ++ l) s.is ∙ sym (append_assoc a.used s.before (s.token ∷ s.after));
  at = s.at;
}

pub here-stands : (ts : Tokens) → Ends ts → StandsIn ts (here ts)
here-stands [] h = absurd h
here-stands (t ∷ ts) h = record { before = []; token = t; after = ts; is = refl; at = refl }

pub next-left : (ts : Tokens) → Ends ts → is_last (first ts).tok ≡ false → LeftOf ts (next ts)
next-left [] h l = absurd h
next-left (t ∷ []) h l = absurd (true≢false (sym h ∙ l))
next-left (t ∷ u ∷ us) h l = record { used = t ∷ []; is = refl; ends = h.1 }

-- a token that is seen ends no list
pub sees-opens : (s : Setting) (k : Mark) (ts : Tokens) → is_final k ≡ false → sees s k ts ≡ true → is_last (first ts).tok ≡ false
unfolding sees
sees-opens s k ts kept e = not-final ts k kept (marks-same (mark ts) k (and_parts _ _ e).1)

pub sees-left : (s : Setting) (k : Mark) (ts : Tokens) → is_final k ≡ false → Ends ts → sees s k ts ≡ true → LeftOf ts (next ts)
sees-left s k ts kept h e = next-left ts h (sees-opens s k ts kept e)

pub after-left : (s : Setting) (k : Mark) (ts : Tokens) → is_final k ≡ false → Ends ts → LeftOf ts (after s k ts)
unfolding after
after-left s k ts kept h = go (sees s k ts) refl
  where
    go : (b : Bool) → sees s k ts ≡ b → LeftOf ts (if b then next ts else ts)
    go true e = sees-left s k ts kept h e
    go false e = stays ts h

-- ---- readers, of whose faults at least the kinds of expressions are allowed

-- the outcome leaves a part of the list, or its fault stands in it
pub record Kept {A : Type 0} (allowed : Kind → Bool) (ts : Tokens) (o : Outcome A) : Type 0 where
  pub is : Keeps allowed ts o

-- so does each outcome of the reader
pub record IsKeeping {A : Type 0} (allowed : Kind → Bool) (p : Reader A) : Type 0 where
  pub at : (ts : Tokens) → Ends ts → Kept allowed ts (p ts)

pub fault-behind : {allowed : Kind → Bool} {ts mid : Tokens} {e : Fault} → LeftOf ts mid → FaultIn allowed mid e → FaultIn allowed ts e
fault-behind a f = record { place = f.place; kind = f.kind; is = f.is; stands = stands-behind a f.stands; may = f.may }

pub behind : {allowed : Kind → Bool} {A : Type 0} {ts mid : Tokens} {o : Outcome A} → LeftOf ts mid → Kept allowed mid o → Kept allowed ts o
behind {o = Ok p} a k = record { is = further a k.is }
behind {o = Err e} a k = record { is = fault-behind a k.is }

-- a reader, and then another
pub then-kept : {allowed : Kind → Bool} {A B : Type 0} {ts : Tokens} {o : Outcome A} {f : A → Reader B} → Kept allowed ts o → ((a : A) → IsKeeping allowed (f a)) → Kept allowed ts (and_then o f)
then-kept {o = Ok p} {f = f} k more = behind k.is ((more p.0).at p.1 k.is.ends)
then-kept {o = Err e} k more = record { is = k.is }

pub then-keeps : {allowed : Kind → Bool} {A B : Type 0} {p : Reader A} {f : A → Reader B} → IsKeeping allowed p → ((a : A) → IsKeeping allowed (f a)) → IsKeeping allowed (p >>= f)
then-keeps h more = record { at = λ ts e. then-kept (h.at ts e) more }

pub pure-keeps : {allowed : Kind → Bool} {A : Type 0} {a : A} → IsKeeping allowed (pure a)
pure-keeps = record { at = λ ts e. record { is = stays ts e } }

pub if-kept : {allowed : Kind → Bool} {A : Type 0} {ts : Tokens} {b : Bool} {x y : Outcome A} → (b ≡ true → Kept allowed ts x) → (b ≡ false → Kept allowed ts y) → Kept allowed ts (if b then x else y)
if-kept {b = true} some none = some refl
if-kept {b = false} some none = none refl

pub if-keeps : {allowed : Kind → Bool} {A : Type 0} (b : Bool) {p q : Reader A} → IsKeeping allowed p → IsKeeping allowed q → IsKeeping allowed (if b then p else q)
if-keeps true some none = some
if-keeps false some none = none

-- this result, before these tokens
abbrev pub ends_at : {A : Type 0} → A → Tokens → Outcome A
ends_at a rest = Ok (a, rest)

pub left-kept : {allowed : Kind → Bool} {A : Type 0} {a : A} {ts rest : Tokens} → LeftOf ts rest → Kept allowed ts (ends_at a rest)
left-kept l = record { is = l }

pub next-kept : {allowed : Kind → Bool} {A : Type 0} {a : A} (s : Setting) (k : Mark) (ts : Tokens) → is_final k ≡ false → Ends ts → sees s k ts ≡ true → Kept allowed ts (ends_at a (next ts))
next-kept s k ts kept h e = left-kept (sees-left s k ts kept h e)

module _ {allowed : Kind → Bool} (may : (k : Kind) → is_of_expressions k ≡ true → allowed k ≡ true) where
  pub fault-here : (ts : Tokens) (k : Kind) → Ends ts → is_of_expressions k ≡ true → FaultIn allowed ts (fault.At (here ts) k)
  fault-here ts k h is = record { place = here ts; kind = k; is = refl; stands = here-stands ts h; may = may k is }

  pub refusal-in : (s : Setting) (before : Stop) (ts : Tokens) → Ends ts → FaultIn allowed ts (refusal s before ts)
  unfolding refusal
  refusal-in s before ts h = fault-here ts _ h (of_expressions (is_refused s.around before (mark ts)))
    where
      of_expressions : (b : Bool) → is_of_expressions (if b then Unsupported (spelling (first ts).tok) else Expected) ≡ true
      of_expressions true = refl
      of_expressions false = refl

  pub too-deep-in : (s : Setting) (ts : Tokens) → Ends ts → FaultIn allowed ts (too_deep s ts)
  unfolding too_deep
  too-deep-in s ts h = fault-here ts _ h (of_expressions (begins s ts || is_refused s.around stop.Operand (mark ts)))
    where
      of_expressions : (b : Bool) → is_of_expressions (if b then TooDeep else Expected) ≡ true
      of_expressions true = refl
      of_expressions false = refl

  pub refused-kept : {A : Type 0} (s : Setting) (before : Stop) (ts : Tokens) → Ends ts → Kept {A = A} allowed ts (Err (refusal s before ts))
  refused-kept s before ts h = record { is = refusal-in s before ts h }

  pub refuse-keeps : {A : Type 0} (s : Setting) (before : Stop) → IsKeeping {A = A} allowed (refuse s before)
  refuse-keeps s before = record { at = λ ts h. refused-kept s before ts h }

  pub eat-keeps : (s : Setting) (k : Mark) → is_final k ≡ false → IsKeeping allowed (eat s k)
  eat-keeps s k kept = record { at = λ ts h. record { is = after-left s k ts kept h } }

  pub ask-keeps : (test : Tokens → Bool) → IsKeeping allowed (ask test)
  ask-keeps test = record { at = λ ts h. record { is = stays ts h } }

  pub expect-keeps : (s : Setting) (before : Stop) (k : Mark) → is_final k ≡ false → IsKeeping allowed (expect s before k)
  unfolding expect
  expect-keeps s before k kept = record { at = λ ts h. if-kept {b = sees s k ts} (λ e. next-kept s k ts kept h e) (λ _. refused-kept s before ts h) }

  pub name-keeps : (s : Setting) (before : Stop) → IsKeeping allowed (name s before)
  unfolding name
  name-keeps s before = record { at = λ ts h. if-kept {b = sees s m.Name ts} (λ e. next-kept s m.Name ts refl h e) (λ _. refused-kept s before ts h) }

  pub declared-keeps : (s : Setting) (before : Stop) → IsKeeping allowed (declared s before)
  unfolding declared
  declared-keeps s before = record { at = λ ts h. if-kept {b = sees s m.Name ts} (λ e. next-kept s m.Name ts refl h e) (λ _. refused-kept s before ts h) }

  pub opening-kept : (n : ℕ) (ts : Tokens) → Ends ts → is_last (first ts).tok ≡ false → Kept allowed ts (opening n ts)
  unfolding opening
  opening-kept zero ts h l = record { is = fault-here ts TooDeep h refl }
  opening-kept (suc n) ts h l = record { is = next-left ts h l }

  pub gathered-keeps : {A B : Type 0} {goes_on : Reader Bool} {item : Reader A} (put : B → A → B) (found : B) → IsKeeping allowed goes_on → IsKeeping allowed item → IsKeeping allowed (gathered goes_on item put found)
  unfolding gathered gathered_from
  gathered-keeps {A} {B} {goes_on} {item} put found going reads = record { at = λ ts h. (turns (length ts) found).at ts h }
    where
      turns : (n : ℕ) (found : B) → IsKeeping allowed (gathered_from n goes_on item put found)
      turns zero found = record { at = λ ts h. record { is = fault-here ts Expected h refl } }
      turns (suc n) found = then-keeps reads (λ x. then-keeps going (λ more. if-keeps more (turns n (put found x)) pure-keeps))

  pub names-keeps : (s : Setting) (before : Stop) → IsKeeping allowed (names s before)
  names-keeps s before = gathered-keeps _ _ (eat-keeps s m.Comma refl) (declared-keeps s before)
