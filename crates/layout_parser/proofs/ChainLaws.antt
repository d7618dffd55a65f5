-- A chain piece by piece.
use Rattle.std.proofs.Common.{◌≡◌, ℕ, suc, ◌+◌, ◌-◌, ◌<◌, ◌≤◌, arith, if◌then◌else◌, Result, zero, Bool, true, false, List, [], ◌∷◌, ◌++◌, Option, Some, None, Ok, Err, refl, sym, subst, ap, ◌∙◌, append_assoc, append-nil}
use Rattle.std.proofs.lemmas.Option.{none-some}
use Rattle.std.specs.Result.{IfOk}
use Rattle.std.specs.Prelude.{MatchOption}
use Rattle.std.proofs.lemmas.Bool.{true≢false, false≢true, cond_both}
use Rattle.tla_ast.specs.declared.place.Place.{Place}
use Rattle.tla_ast.specs.declared.tree.Node.{Node}
use Rattle.tla_ast.specs.declared.token.Token.{Token}
use Rattle.tla_ast.specs.declared.fault.Fault.{Fault}
use Rattle.std_names.specs.declared.operators.Fix.{Fix}
use Rattle.std_names.specs.declared.operators.Fix.TheVariants.{Prefix, Infix}
use Rattle.std_names.specs.Operators.{operator, infix_rows, postfix_rows}
use Rattle.operator_chain.specs.declared.chain.Operator.{Operator}
use Rattle.operator_chain.specs.declared.chain.Piece.{Piece}
use Rattle.operator_chain.specs.declared.chain.Piece.TheVariants as piece
use Rattle.operator_chain.specs.Tree.{hole}
use Rattle.operator_chain.specs.Chain.{IsChain}
use Rattle.operator_chain.specs.Listed.{IsListed, AreListed}
use Rattle.token_reader.specs.declared.mark.Mark.{Mark}
use Rattle.token_reader.specs.declared.mark.Mark.TheVariants as m
use Rattle.token_reader.specs.declared.setting.Setting.{Setting}
use Rattle.layout_parser.specs.declared.flat.Step.{Step}
use Rattle.layout_parser.specs.declared.flat.Step.TheVariants.{More, Ended, Broken}
use Rattle.token_reader.specs.declared.setting.Stop.TheVariants as stop
use Rattle.layout_parser.specs.declared.flat.Flat.{Flat}
use Rattle.core_expr.specs.declared.memory.Memory.{Memory}
use Rattle.token_reader.proofs.Turns.{turn}
use Rattle.layout_parser.specs.Nests.{Flats, ended}
use Rattle.token_reader.specs.Marks.{Text, spelling}
use Rattle.token_reader.specs.Input.{Tokens, Outcome, first, next, here, is_inside, mark, name, too_deep}
use Rattle.layout_parser.specs.Reading.{Chain, ChainReader, Stepped, behind, left_over, joined, full, step, step_before, step_after, before_by, after_by, suffixed, by_operand, by_suffix, operand, operator_at, operator_in, index_at, field_at, prime_at, member_at, indexed, field, index, chain_from, nested}

-- ---- the loop

pub one_more : {X : Type 0} {x : X} (f : ℕ → X) (n at : ℕ) → at < n → x ≡ f (n - at) → x ≡ f (suc (n - (at + 1)))
one_more f n at below e = e ∙ ap f (turn n at below)

pub no_more : {X : Type 0} {x : X} (f : ℕ → X) (n at : ℕ) → n ≤ at → x ≡ f (n - at) → x ≡ f 0
no_more f n at done e = let none : n - at ≡ 0 = omega arith in e ∙ ap f none

behind-behind : (xs ys : List Piece) (c : Chain) → behind xs (behind ys c) ≡ behind (xs ++ ys) c
behind-behind xs ys c = ap (λ l. (l, c.1)) (sym (append_assoc xs ys c.0))

module _ (left : ℕ) (inner : ChainReader) where
  pub chain-more : (n : ℕ) (s : Setting) (waits opens : Bool) (ts rest : Tokens) (x : Piece) (xs : List Piece) (c : Chain)
      → step left inner s waits ts ≡ (More x opens, rest) → c ≡ behind xs (chain_from left inner (suc n) s waits ts)
      → c ≡ behind (xs ++ x ∷ []) (chain_from left inner n s opens rest)
  unfolding chain_from
  chain-more n s waits opens ts rest x xs c is inv = inv ∙ rw is (behind-behind xs (x ∷ []) (chain_from left inner n s opens rest))

  pub chain-stop : (n : ℕ) (s : Setting) (waits : Bool) (ts rest : Tokens) (xs : List Piece) (c : Chain)
      → step left inner s waits ts ≡ (Ended, rest) → c ≡ behind xs (chain_from left inner (suc n) s waits ts) → (xs ≡ c.0) × (c.1 ≡ Ok rest)
  unfolding chain_from
  chain-stop n s waits ts rest xs c is inv =
      let all : c ≡ (xs ++ [], Ok rest) = inv ∙ rw is refl in
      (sym (ap (λ p. p.0) all ∙ append-nil xs), ap (λ p. p.1) all)

  broken-step : (p : Stepped) (x : Option Piece) (f : Fault) (more : Bool → Tokens → Chain) → p.0 ≡ Broken x f → joined p more ≡ (left_over x, Err f)
  broken-step p x f more is = let e : p ≡ (Broken x f, p.1) = ap (λ k. (k, p.1)) is in rw e refl

  pub chain-broken : (n : ℕ) (s : Setting) (waits : Bool) (ts : Tokens) (x : Option Piece) (f : Fault) (xs : List Piece) (c : Chain)
      → (step left inner s waits ts).0 ≡ Broken x f → c ≡ behind xs (chain_from left inner (suc n) s waits ts) → c ≡ behind xs (left_over x, Err f)
  unfolding chain_from
  chain-broken n s waits ts x f xs c is inv = inv ∙ ap (behind xs) (broken-step (step left inner s waits ts) x f (chain_from left inner n s) is)

  pub chain-none : (s : Setting) (waits : Bool) (ts : Tokens) (xs : List Piece) (c : Chain) → c ≡ behind xs (chain_from left inner 0 s waits ts) → (xs ≡ c.0) × (c.1 ≡ full s waits ts)
  unfolding chain_from
  chain-none s waits ts xs c inv = (sym (ap (λ p. p.0) inv ∙ append-nil xs), ap (λ p. p.1) inv)

-- ---- what is read is the front of a chain, of operators of the table

-- the piece may stand there, and an operand must come after it or not
abbrev pub Suits : Bool → Piece → Bool → Type 0
Suits waits (piece.Operand a) opens = (waits ≡ true) × (opens ≡ false)
Suits waits (piece.Prefix p) opens = (waits ≡ true) × (opens ≡ true)
Suits waits (piece.Infix o) opens = (waits ≡ false) × (opens ≡ true)
Suits waits (piece.Postfix q) opens = (waits ≡ false) × (opens ≡ false)

abbrev pub IsGood : Bool → Step → Type 0
IsGood waits (More x opens) = Suits waits x opens × IsListed x
IsGood waits Ended = Unit {0}
IsGood waits (Broken None f) = Unit {0}
IsGood waits (Broken (Some x) f) = IsChain waits (x ∷ []) × IsListed x

pub same-some : {A : Type 0} (a b : A) → Some a ≡ Some b → a ≡ b
same-some {A} a b e = ap from_some e
  where
    from_some : Option A → A
    from_some (Some x) = x
    from_some None = a

-- an operator that a token is has its row of the table
by-row : (t : Token) (fix : Fix) (r : Option (ℕ × ℕ × Bool)) (o : Operator) → operator (spelling t.tok) fix ≡ r → operator_at t r ≡ Some o → operator o.sign fix ≡ Some (o.low, o.high, o.is_left)
by-row t fix (Some row) o is e = subst (λ p. operator p.sign fix ≡ Some (p.low, p.high, p.is_left)) (same-some _ o e) is
by-row t fix None o is e = absurd (none-some _ e)

pub operator-listed : (s : Setting) (fix : Fix) (ts : Tokens) (o : Operator) → operator_in s fix ts ≡ Some o → operator o.sign fix ≡ Some (o.low, o.high, o.is_left)
unfolding operator_in
operator-listed s fix ts o e = by-test (is_inside s ts) e
  where
    by-test : (inside : Bool) → (if inside then operator_at (first ts) (operator (spelling (first ts).tok) fix) else None) ≡ Some o → operator o.sign fix ≡ Some (o.low, o.high, o.is_left)
    by-test true e2 = by-row (first ts) fix (operator (spelling (first ts).tok) fix) o refl e2
    by-test false e2 = absurd (none-some _ e2)

pub index-listed : (a : Node) (place : Place) → IsListed (index_at a place)
unfolding operator postfix_rows
index-listed a place = refl

field-listed : (h : Text) (place : Place) → IsListed (field_at h place)
unfolding operator postfix_rows
field-listed h place = refl

prime-listed : (place : Place) → IsListed (prime_at place)
unfolding operator postfix_rows
prime-listed place = refl

pub member-listed : (place : Place) → IsListed (member_at place)
unfolding operator infix_rows
member-listed place = refl

good-operand : (r : Outcome Node) → IsGood true (by_operand r).0
good-operand (Ok p) = ((refl, refl), tt)
good-operand (Err e) = tt

good-index : (place : Place) (r : Outcome Node) → IsGood false (by_suffix (λ e. index_at e place) (index_at hole place) r).0
good-index place (Ok p) = ((refl, refl), index-listed p.0 place)
good-index place (Err e) = (tt, index-listed hole place)

good-field : (place : Place) (r : Outcome Text) → IsGood false (by_suffix (λ h. field_at h place) (field_at [] place) r).0
good-field place (Ok p) = ((refl, refl), field-listed p.0 place)
good-field place (Err e) = (tt, field-listed [] place)

module _ (left : ℕ) (inner : ChainReader) where
  good-indexed : (s : Setting) (ts : Tokens) → IsGood false (indexed left inner s ts).0
  unfolding indexed
  good-indexed s ts = good-index (here ts) (index left inner s ts)

  good-suffixed : (s : Setting) (k : Mark) (ts : Tokens) → IsGood false (suffixed left inner s k ts).0
  unfolding field
  good-suffixed s m.Prime ts = ((refl, refl), prime-listed (here ts))
  good-suffixed s m.OpenSquare ts = good-indexed s ts
  good-suffixed s m.Dot ts = good-field (here ts) (name s stop.Other (next ts))
  good-suffixed s _ ts = tt

  good-before : (s : Setting) (o : Option Operator) (ts : Tokens) → operator_in s Prefix ts ≡ o → IsGood true (before_by left inner s o ts).0
  good-before s (Some o) ts is = ((refl, refl), operator-listed s Prefix ts o is)
  good-before s None ts is = good-operand (operand left inner s ts)

  good-after : (s : Setting) (o : Option Operator) (ts : Tokens) → operator_in s Infix ts ≡ o → IsGood false (after_by left inner s o ts).0
  good-after s (Some o) ts is = ((refl, refl), operator-listed s Infix ts o is)
  good-after s None ts is = cond_both (is_inside s ts) (suffixed left inner s (mark ts) ts) (Ended, ts) (λ p. IsGood false p.0) (λ _. good-suffixed s (mark ts) ts) (λ _. tt)

  pub good-step : (s : Setting) (waits : Bool) (ts : Tokens) → IsGood waits (step left inner s waits ts).0
  unfolding step_before step_after
  good-step s true ts = good-before s (operator_in s Prefix ts) ts refl
  good-step s false ts = good-after s (operator_in s Infix ts) ts refl

  front-nil : (waits : Bool) → IsChain waits []
  front-nil true = tt
  front-nil false = tt

  front-piece : (waits opens : Bool) (x : Piece) (c : List Piece) → Suits waits x opens → IsChain opens c → IsChain waits (x ∷ c)
  front-piece true false (piece.Operand a) c s h = h
  front-piece true true (piece.Prefix a) c s h = h
  front-piece false true (piece.Infix a) c s h = h
  front-piece false false (piece.Postfix a) c s h = h
  front-piece true true (piece.Operand a) c s h = absurd (true≢false s.1)
  front-piece false o (piece.Operand a) c s h = absurd (false≢true s.0)
  front-piece true false (piece.Prefix a) c s h = absurd (false≢true s.1)
  front-piece false o (piece.Prefix a) c s h = absurd (false≢true s.0)
  front-piece false false (piece.Infix a) c s h = absurd (false≢true s.1)
  front-piece true o (piece.Infix a) c s h = absurd (true≢false s.0)
  front-piece false true (piece.Postfix a) c s h = absurd (true≢false s.1)
  front-piece true o (piece.Postfix a) c s h = absurd (true≢false s.0)

  -- the front of a chain, of operators of the table
  abbrev IsFront : Bool → List Piece → Type 0
  IsFront waits c = IsChain waits c × AreListed c

  front-left : (waits : Bool) (x : Option Piece) (f : Fault) → IsGood waits (Broken x f) → IsFront waits (left_over x)
  front-left waits None f g = (front-nil waits, tt)
  front-left waits (Some x) f g = (g.0, (g.1, tt))

  front-joined : (waits : Bool) (p : Stepped) (more : Bool → Tokens → Chain) → IsGood waits p.0 → ((opens : Bool) (ts : Tokens) → IsFront opens (more opens ts).0) → IsFront waits (joined p more).0
  front-joined waits (More x opens, ts) more g h = (front-piece waits opens x _ g.0 (h opens ts).0, (g.1, (h opens ts).1))
  front-joined waits (Ended, ts) more g h = (front-nil waits, tt)
  front-joined waits (Broken x f, ts) more g h = front-left waits x f g

  front-chain : (n : ℕ) (s : Setting) (waits : Bool) (ts : Tokens) → IsFront waits (chain_from left inner n s waits ts).0
  unfolding chain_from
  front-chain zero s waits ts = (front-nil waits, tt)
  front-chain (suc n) s waits ts = front-joined waits (step left inner s waits ts) (chain_from left inner n s) (good-step s waits ts) (front-chain n s)

pub front : (left n : ℕ) (s : Setting) (waits : Bool) (ts : Tokens) → IsChain waits (nested left n s waits ts).0 × AreListed (nested left n s waits ts).0
unfolding nested
front zero n s true ts = (tt, tt)
front zero n s false ts = (tt, tt)
front (suc left) n s waits ts = front-chain left (nested left) n s waits ts

pub front-chain-of : (c : Chain) (waits : Bool) (r : Result Flat Memory) (new : Tokens) → IsChain waits c.0 × AreListed c.0 → Flats c r new → IfOk r (λ f. IsChain waits f.pieces.items)
front-chain-of c waits (Ok f) new h flats = subst (IsChain waits) (sym flats.0) h.0
front-chain-of c waits (Err e) new h flats = tt

pub front-listed-of : (c : Chain) (waits : Bool) (r : Result Flat Memory) (new : Tokens) → IsChain waits c.0 × AreListed c.0 → Flats c r new → IfOk r (λ f. AreListed f.pieces.items)
front-listed-of c waits (Ok f) new h flats = subst AreListed (sym flats.0) h.1
front-listed-of c waits (Err e) new h flats = tt

pub flats-is : (c : Chain) (f : Flat) (new : Tokens) → Flats c (Ok f) new → c ≡ (f.pieces.items, ended f.fault new)
flats-is c f new h = λ i. (sym h.0 i, h.1 i)

-- ---- operators as the code finds them

pub no-operator : (s : Setting) (fix : Fix) (ts : Tokens) → false ≡ is_inside s ts → None ≡ operator_in s fix ts
unfolding operator_in
no-operator s fix ts e = ap (λ b. if b then operator_at (first ts) (operator (spelling (first ts).tok) fix) else None) e

abbrev IsFound : Text → Place → Fix → Option Operator → Type 0
IsFound sign place fix r = MatchOption r (operator sign fix ≡ None) (λ o. (operator o.sign fix ≡ Some (o.low, o.high, o.is_left)) × (o.sign ≡ sign) × (o.place ≡ place))

found-at : (t : Token) (fix : Fix) (r : Option Operator) → IsFound (spelling t.tok) t.place fix r → r ≡ operator_at t (operator (spelling t.tok) fix)
found-at t fix None h = sym (ap (operator_at t) h)
found-at t fix (Some o) h =
    let row : operator (spelling t.tok) fix ≡ Some (o.low, o.high, o.is_left) = subst (λ x. operator x fix ≡ Some (o.low, o.high, o.is_left)) h.1 h.0 in
    let whole : Some o ≡ operator_at t (Some (o.low, o.high, o.is_left)) = λ i. Some (record { sign = h.1 i; low = o.low; high = o.high; is_left = o.is_left; place = h.2 i }) in
    whole ∙ sym (ap (operator_at t) row)

pub found-operator : (s : Setting) (fix : Fix) (ts : Tokens) (sign : Text) (place : Place) (r : Result (Option Operator) Memory)
    → true ≡ is_inside s ts → sign ≡ spelling (first ts).tok → place ≡ here ts → IfOk r (IsFound sign place fix) → IfOk r (λ o. o ≡ operator_in s fix ts)
unfolding operator_in
found-operator s fix ts sign place (Ok r) inside is-sign is-place h =
    let at : IsFound (spelling (first ts).tok) (here ts) fix r = subst (λ p. IsFound p (here ts) fix r) is-sign (subst (λ p. IsFound sign p fix r) is-place h) in
    found-at (first ts) fix r at ∙ ap (λ b. if b then operator_at (first ts) (operator (spelling (first ts).tok) fix) else None) inside
found-operator s fix ts sign place (Err e) inside is-sign is-place h = tt

-- ---- two pieces before a chain

pub two-listed : (xs ys zs : List Piece) (a : Node) (p : Piece) (place : Place) → xs ≡ piece.Operand a ∷ ys → ys ≡ p ∷ zs → p ≡ member_at place → AreListed zs → AreListed xs
two-listed xs ys zs a p place is-xs is-ys is-p h =
    let all : xs ≡ piece.Operand a ∷ member_at place ∷ zs = is-xs ∙ ap (λ l. piece.Operand a ∷ l) (is-ys ∙ ap (λ q. q ∷ zs) is-p) in
    subst AreListed (sym all) (tt, (member-listed place, h))

-- ---- nestings

pub nested-none : (left n : ℕ) (s : Setting) (waits : Bool) (ts : Tokens) (xs : List Piece) (f : Fault) → left ≡ 0 → xs ≡ [] → f ≡ too_deep s ts
    → (xs ≡ (nested left n s waits ts).0) × ((nested left n s waits ts).1 ≡ Err f)
unfolding nested
nested-none left n s waits ts xs f is-left is-xs is-f =
    let e : nested left n s waits ts ≡ ([], Err (too_deep s ts)) = ap (λ k. nested k n s waits ts) is-left in
    (is-xs ∙ sym (ap (λ p. p.0) e), ap (λ p. p.1) e ∙ ap Err (sym is-f))

pub deeper : {X : Type 0} (f : ℕ → X) (n : ℕ) → 0 < n → f n ≡ f (suc (n - 1))
deeper f n some = let e : n ≡ suc (n - 1) = omega arith in ap f e
