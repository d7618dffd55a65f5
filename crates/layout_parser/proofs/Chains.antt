-- What chains and whole readings have used.
use Rattle.std.proofs.Common.{◌+◌, ◌≤◌, ◌<◌, ◌++◌, length, arith, ◌≡◌, ℕ, zero, suc, Bool, true, false, if◌then◌else◌, List, [], ◌∷◌, Option, Some, None, Result, Ok, Err, refl, sym, ap, subst, ◌∙◌, nat_lt}
use Rattle.std.proofs.lemmas.Bool.{true≢false, false≢true}
use Rattle.std.proofs.lemmas.List.{length-append}
use Rattle.tla_ast.specs.declared.fault.Fault.{Fault}
use Rattle.tla_ast.specs.declared.tree.Node.{Node}
use Rattle.std_names.specs.declared.operators.Fix.TheVariants.{Prefix, Infix}
use Rattle.std_names.specs.Operators.{operator, infix_rows}
use Rattle.operator_chain.specs.declared.chain.Operator.{Operator}
use Rattle.operator_chain.specs.declared.chain.Piece.{Piece}
use Rattle.operator_chain.specs.declared.chain.Piece.TheVariants as piece
use Rattle.operator_chain.specs.declared.chain.Ending.{Ending}
use Rattle.operator_chain.specs.declared.chain.Ending.TheVariants as ending
use Rattle.operator_chain.specs.Tree.{Tree, leaf, prefixed, suffixed, joined, flat, hole}
use Rattle.operator_chain.specs.Chain.{IsWhole, OneRightTree}
use Rattle.token_reader.specs.declared.mark.Mark.{Mark}
use Rattle.token_reader.specs.declared.mark.Mark.TheVariants as m
use Rattle.token_reader.specs.declared.setting.Setting.{Setting}
use Rattle.token_reader.specs.declared.setting.Stop.TheVariants as stop
use Rattle.layout_parser.specs.declared.flat.Step.{Step}
use Rattle.layout_parser.specs.declared.flat.Step.TheVariants.{More, Ended, Broken}
use Rattle.token_reader.specs.Marks.{Text, spelling}
use Rattle.token_reader.specs.Input.{Tokens, Outcome, first, next, here, mark, is_inside, name}
use Rattle.layout_parser.specs.Reading as rule
use Rattle.layout_parser.specs.Reading.{ChainReader, Stepped, operator_in, operator_at, nested}
use Rattle.layout_parser.specs.Spelling.{Stops}
use Rattle.layout_parser.specs.Spelling as spell
use Rattle.layout_parser.specs.Spelling.{Symbols, Operand, Subscript, Spelled, none, token, of_operand, of_tree, of_no_bullet}
use Rattle.layout_parser.proofs.ChainLaws.{Suits, IsGood, good-step}
use Rattle.token_reader.proofs.Steps.{by-test}
use Rattle.layout_parser.proofs.Steps.{Read, Stands, nothing, both, up-to, on-sign-at, on-name, on-operator, on-operand, stands-at, Good, ChainRead}
use Rattle.layout_parser.proofs.Readers.{operand, index}

-- ---- what is spelled has a token

abbrev pub IsMore : {A : Type 0} → List A → Type 0
IsMore [] = ⊥
IsMore (x ∷ xs) = Unit {0}

pub more-append : {A : Type 0} (xs ys : List A) → IsMore xs → IsMore (xs ++ ys)
more-append [] ys h = absurd h
more-append (x ∷ xs) ys h = tt

flat-more : (t : Tree) → IsMore (flat t)
flat-more (leaf a) = tt
flat-more (prefixed p t) = tt
flat-more (suffixed t q) = more-append (flat t) (piece.Postfix q ∷ []) (flat-more t)
flat-more (joined l o r) = more-append (flat l) (piece.Infix o ∷ flat r) (flat-more l)

-- the first symbol takes a token
abbrev Begins : Symbols → Type 0
Begins [] = ⊥
Begins (spell.no_bullet k column ∷ ys) = ⊥
Begins (_ ∷ ys) = Unit {0}

begins-append : (xs ys : Symbols) → Begins xs → Begins (xs ++ ys)
begins-append [] ys h = absurd h
begins-append (spell.no_bullet k column ∷ xs) ys h = absurd h
begins-append (_ ∷ xs) ys h = h

pub piece-more : (region : ℕ) (has_at : Bool) (x : Piece) → Begins (spell.piece_symbols region has_at x)
piece-more region has_at (piece.Operand n) = tt
piece-more region has_at (piece.Prefix p) = tt
piece-more region has_at (piece.Infix o) = tt
piece-more region has_at (piece.Postfix q) = by-ending q.ending
  where
    by-ending : (end : Ending) → Begins (spell.ending_symbols region has_at end q.place)
    by-ending ending.Prime = tt
    by-ending (ending.Index x) = tt
    by-ending (ending.Field h) = tt

pieces-more : (region : ℕ) (has_at : Bool) (xs : List Piece) → IsMore xs → Begins (spell.pieces region has_at xs)
pieces-more region has_at [] h = absurd h
pieces-more region has_at (x ∷ xs) h = begins-append (spell.piece_symbols region has_at x) (spell.pieces region has_at xs) (piece-more region has_at x)

subscript-more : {region : ℕ} {has_at : Bool} {n : Node} {ys : Symbols} → Subscript region has_at n ys → Begins ys
subscript-more (spell.identifier x place) = tt
subscript-more _ = tt

operand-more : {region : ℕ} {has_at : Bool} {n : Node} {ys : Symbols} → Operand region has_at n ys → Begins ys
operand-more (spell.plain n ys s) = subscript-more s
operand-more _ = tt

pub some-used : {region : ℕ} {has_at : Bool} {ys : Symbols} {used rest : Tokens} → Spelled region has_at ys used rest → Begins ys → IsMore used
some-used none h = absurd h
some-used (token t may fits g) h = tt
some-used (of_no_bullet other g) h = absurd h
some-used (of_operand {used = used} {more = more} made parts g) h = more-append used more (some-used parts (operand-more made))
some-used (of_tree {inner = inner} {at = at} {used = used} {more = more} t is right listed inside stops parts g) h = more-append used more (some-used parts (pieces-more inner at (flat t) (flat-more t)))

pub more-length : (xs : Tokens) → IsMore xs → 0 < length xs
more-length [] h = absurd h
more-length (x ∷ xs) h = omega arith

empty-stops : (region : ℕ) (ts : Tokens) → length ts ≤ 0 → Stops region (first ts)
unfolding operator infix_rows
empty-stops region [] e inside-it = (refl, λ p. absurd (cc), λ p. absurd (cc), λ p. absurd (cc))
empty-stops region (t ∷ ts) e inside-it = absurd (omega (arith, e))

pub shorter : {region : ℕ} {has_at : Bool} {ts us : Tokens} {ys : Symbols} → Begins ys → Read region has_at ts us ys → length us < length ts
shorter {ts = ts} {us = us} more r =
    let all : length ts ≡ length r.used + length us = ap length r.is ∙ length-append r.used us in
    let some : 0 < length r.used = more-length r.used (some-used r.spelled more) in omega arith

-- ---- steps

piece_of : Piece → Step → Piece
piece_of x (More y o) = y
piece_of x Ended = x
piece_of x (Broken y f) = x

-- two steps are the same
record SameStep (x y : Piece) (ts us : Tokens) : Type 0 where
  pub piece : x ≡ y
  pub rest : ts ≡ us

same-step : (x y : Piece) (o p : Bool) (ts us : Tokens) → (let s : Stepped = (More x o, ts) in s) ≡ (More y p, us) → SameStep x y ts us
unfolding piece_of
same-step x y o p ts us e = record { piece = ap (λ s. piece_of x s.0) e; rest = ap (λ s. s.1) e }

not-ended : {x : Piece} {o : Bool} {ts us : Tokens} {X : Type 0} → (let s : Stepped = (More x o, ts) in s) ≡ (Ended, us) → X
not-ended e = let f : More _ _ ≡ Ended = ap (λ s. s.0) e in absurd (cc)

no-more : {y : Piece} {o : Bool} {ts us : Tokens} {X : Type 0} → (let s : Stepped = (Ended, ts) in s) ≡ (More y o, us) → X
no-more e = let f : Ended ≡ More _ _ = ap (λ s. s.0) e in absurd (cc)

not-broken : {x : Option Piece} {f : Fault} {y : Piece} {o : Bool} {ts us : Tokens} {X : Type 0} → (let s : Stepped = (Broken x f, ts) in s) ≡ (More y o, us) → X
not-broken e = let g : Broken _ _ ≡ More _ _ = ap (λ s. s.0) e in absurd (cc)

broken-ended : {x : Option Piece} {f : Fault} {ts us : Tokens} {X : Type 0} → (let s : Stepped = (Broken x f, ts) in s) ≡ (Ended, us) → X
broken-ended e = let g : Broken _ _ ≡ Ended = ap (λ s. s.0) e in absurd (cc)

whole-piece : (waits opens : Bool) (x : Piece) (c : List Piece) → Suits waits x opens → IsWhole opens c → IsWhole waits (x ∷ c)
whole-piece true false (piece.Operand a) c s h = h
whole-piece true true (piece.Prefix a) c s h = h
whole-piece false true (piece.Infix a) c s h = h
whole-piece false false (piece.Postfix a) c s h = h
whole-piece true true (piece.Operand a) c s h = absurd (true≢false s.1)
whole-piece false o (piece.Operand a) c s h = absurd (false≢true s.0)
whole-piece true false (piece.Prefix a) c s h = absurd (false≢true s.1)
whole-piece false o (piece.Prefix a) c s h = absurd (false≢true s.0)
whole-piece false false (piece.Infix a) c s h = absurd (false≢true s.1)
whole-piece true o (piece.Infix a) c s h = absurd (true≢false s.0)
whole-piece false true (piece.Postfix a) c s h = absurd (true≢false s.1)
whole-piece true o (piece.Postfix a) c s h = absurd (true≢false s.0)

pub same-tokens : (ts us : Tokens) → (let r : Result Tokens Fault = Ok ts in r) ≡ Ok us → ts ≡ us
same-tokens ts us e = ap of_ok e
  where
    of_ok : Result Tokens Fault → Tokens
    of_ok (Ok l) = l
    of_ok (Err f) = ts

-- the tokens of a piece
abbrev pub PieceRead : Setting → Tokens → Tokens → Piece → Type 0
PieceRead s ts rest x = Read s.region s.has_at ts rest (spell.piece_symbols s.region s.has_at x)

as-step : (s : Setting) (ts us rest : Tokens) (x y : Piece) (o p : Bool) → (let t : Stepped = (More x o, us) in t) ≡ (More y p, rest) → PieceRead s ts us x → PieceRead s ts rest y
as-step s ts us rest x y o p e h = let z = same-step x y o p us rest e in subst (λ q. PieceRead s ts rest q) z.piece (up-to z.rest h)

module _ (left : ℕ) (inner : ChainReader) (law : OneRightTree) (good : Good inner) where
  before-read : (s : Setting) (ts : Tokens) (o : Option Operator) (x : Piece) (opens : Bool) (rest : Tokens) → operator_in s Prefix ts ≡ o → rule.before_by left inner s o ts ≡ (More x opens, rest) → PieceRead s ts rest x
  before-read s ts (Some o) x opens rest is e = as-step s ts (next ts) rest (piece.Prefix o) x true opens e (on-operator s Prefix is nothing)
  before-read s ts None x opens rest is e = by-outcome (rule.operand left inner s ts) refl e
    where
      by-outcome : (r : Outcome Node) → rule.operand left inner s ts ≡ r → rule.by_operand r ≡ (More x opens, rest) → PieceRead s ts rest x
      by-outcome (Ok p) at f = let d = operand left inner law good s ts p.1 p.0 at in as-step s ts p.1 rest (piece.Operand p.0) x false opens f (on-operand d.made d.read nothing)
      by-outcome (Err q) at f = not-broken f

  indexed-read : (s : Setting) (ts : Tokens) (x : Piece) (opens : Bool) (rest : Tokens) → Stands s.region m.OpenSquare ts → rule.indexed left inner s ts ≡ (More x opens, rest) → PieceRead s ts rest x
  unfolding rule.indexed
  indexed-read s ts x opens rest at e = by-outcome (rule.index left inner s ts) refl e
    where
      by-outcome : (r : Outcome Node) → rule.index left inner s ts ≡ r → rule.by_suffix (λ y. rule.index_at y (here ts)) (rule.index_at hole (here ts)) r ≡ (More x opens, rest) → PieceRead s ts rest x
      by-outcome (Ok p) is f = as-step s ts p.1 rest (rule.index_at p.0 (here ts)) x false opens f (index left inner law good s ts p.1 p.0 at is)
      by-outcome (Err q) is f = not-broken f

  field-read : (s : Setting) (ts : Tokens) (x : Piece) (opens : Bool) (rest : Tokens) → Stands s.region m.Dot ts → rule.field s ts ≡ (More x opens, rest) → PieceRead s ts rest x
  unfolding rule.field
  field-read s ts x opens rest at e = by-outcome (name s stop.Other (next ts)) refl e
    where
      by-outcome : (r : Outcome Text) → name s stop.Other (next ts) ≡ r → rule.by_suffix (λ h. rule.field_at h (here ts)) (rule.field_at [] (here ts)) r ≡ (More x opens, rest) → PieceRead s ts rest x
      by-outcome (Ok p) is f = as-step s ts p.1 rest (rule.field_at p.0 (here ts)) x false opens f (on-sign-at at (on-name s stop.Other is nothing))
      by-outcome (Err q) is f = not-broken f

  suffix-read : (s : Setting) (ts : Tokens) (k : Mark) (x : Piece) (opens : Bool) (rest : Tokens) → nat_lt s.region (here ts).column ≡ true → mark ts ≡ k → rule.suffixed left inner s k ts ≡ (More x opens, rest) → PieceRead s ts rest x
  suffix-read s ts m.Prime x opens rest inside is e = as-step s ts (next ts) rest (rule.prime_at (here ts)) x false opens e (on-sign-at (stands-at s.region m.Prime ts refl inside is) nothing)
  suffix-read s ts m.OpenSquare x opens rest inside is e = indexed-read s ts x opens rest (stands-at s.region m.OpenSquare ts refl inside is) e
  suffix-read s ts m.Dot x opens rest inside is e = field-read s ts x opens rest (stands-at s.region m.Dot ts refl inside is) e
  suffix-read s ts _ x opens rest inside is e = no-more e

  after-read : (s : Setting) (ts : Tokens) (o : Option Operator) (x : Piece) (opens : Bool) (rest : Tokens) → operator_in s Infix ts ≡ o → rule.after_by left inner s o ts ≡ (More x opens, rest) → PieceRead s ts rest x
  after-read s ts (Some o) x opens rest is e = as-step s ts (next ts) rest (piece.Infix o) x true opens e (on-operator s Infix is nothing)
  after-read s ts None x opens rest is e = by-test {b = is_inside s ts} e (λ inside f. suffix-read s ts (mark ts) x opens rest inside refl f) (λ _ f. no-more f)

  pub step-read : (s : Setting) (waits : Bool) (ts : Tokens) (x : Piece) (opens : Bool) (rest : Tokens) → rule.step left inner s waits ts ≡ (More x opens, rest) → PieceRead s ts rest x
  unfolding rule.step_before rule.step_after
  step-read s true ts x opens rest e = before-read s ts (operator_in s Prefix ts) x opens rest refl e
  step-read s false ts x opens rest e = after-read s ts (operator_in s Infix ts) x opens rest refl e

  -- ---- where a chain ends

  pub record Stopped (s : Setting) (waits : Bool) (ts us : Tokens) : Type 0 where
    pub done : waits ≡ false
    pub here : us ≡ ts
    pub stops : Stops s.region (first ts)

  outside : (s : Setting) (ts : Tokens) → is_inside s ts ≡ false → Stops s.region (first ts)
  outside s ts e inside = absurd (true≢false (sym inside ∙ e))

  no-infix : (s : Setting) (ts : Tokens) → is_inside s ts ≡ true → operator_in s Infix ts ≡ None → operator (spelling (first ts).tok) Infix ≡ None
  unfolding operator_in
  no-infix s ts inside e = by-row (operator (spelling (first ts).tok) Infix) (sym (ap (λ b. if b then operator_at (first ts) (operator (spelling (first ts).tok) Infix) else None) inside) ∙ e)
    where
      by-row : (r : Option (ℕ × ℕ × Bool)) → operator_at (first ts) r ≡ None → r ≡ None
      by-row None f = refl
      by-row (Some row) f = absurd (cc)

  no-suffix : (s : Setting) (ts us : Tokens) (k : Mark) → operator (spelling (first ts).tok) Infix ≡ None → mark ts ≡ k → rule.suffixed left inner s k ts ≡ (Ended, us) → (us ≡ ts) × Stops s.region (first ts)
  unfolding mark rule.indexed rule.field
  no-suffix s ts us m.Prime miss is e = not-ended e
  no-suffix s ts us m.OpenSquare miss is e = by-outcome (rule.index left inner s ts) e
    where
      by-outcome : (r : Outcome Node) → rule.by_suffix (λ y. rule.index_at y (here ts)) (rule.index_at hole (here ts)) r ≡ (Ended, us) → (us ≡ ts) × Stops s.region (first ts)
      by-outcome (Ok p) f = not-ended f
      by-outcome (Err q) f = broken-ended f
  no-suffix s ts us m.Dot miss is e = by-outcome (name s stop.Other (next ts)) e
    where
      by-outcome : (r : Outcome Text) → rule.by_suffix (λ h. rule.field_at h (here ts)) (rule.field_at [] (here ts)) r ≡ (Ended, us) → (us ≡ ts) × Stops s.region (first ts)
      by-outcome (Ok p) f = not-ended f
      by-outcome (Err q) f = broken-ended f
  no-suffix s ts us _ miss is e = (ap (λ p. p.1) (sym e), λ _. (miss, λ p. absurd (cc (is, p)), λ p. absurd (cc (is, p)), λ p. absurd (cc (is, p))))

  after-stopped : (s : Setting) (ts us : Tokens) (o : Option Operator) → operator_in s Infix ts ≡ o → rule.after_by left inner s o ts ≡ (Ended, us) → (us ≡ ts) × Stops s.region (first ts)
  after-stopped s ts us (Some o) is e = not-ended e
  after-stopped s ts us None is e = by-test {b = is_inside s ts} e (λ inside f. no-suffix s ts us (mark ts) (no-infix s ts inside is) refl f) (λ out f. (ap (λ p. p.1) (sym f), outside s ts out))

  before-stopped : (s : Setting) (ts us : Tokens) (o : Option Operator) {X : Type 0} → rule.before_by left inner s o ts ≡ (Ended, us) → X
  before-stopped s ts us (Some o) e = not-ended e
  before-stopped s ts us None {X} e = by-outcome (rule.operand left inner s ts) e
    where
      by-outcome : (r : Outcome Node) → rule.by_operand r ≡ (Ended, us) → X
      by-outcome (Ok p) f = not-ended f
      by-outcome (Err q) f = broken-ended f

  pub step-stopped : (s : Setting) (waits : Bool) (ts us : Tokens) → rule.step left inner s waits ts ≡ (Ended, us) → Stopped s waits ts us
  unfolding rule.step_before rule.step_after
  step-stopped s true ts us e = before-stopped s ts us (operator_in s Prefix ts) e
  step-stopped s false ts us e = let h = after-stopped s ts us (operator_in s Infix ts) refl e in record { done = refl; here = h.0; stops = h.1 }

  -- ---- chains

  whole-none : (waits : Bool) → waits ≡ false → IsWhole waits []
  whole-none true e = absurd (true≢false e)
  whole-none false e = tt

  chain-read : (n : ℕ) (s : Setting) (waits : Bool) (ts rest : Tokens) (xs : List Piece) → rule.chain_from left inner n s waits ts ≡ (xs, Ok rest) → ChainRead s waits ts rest xs
  unfolding rule.chain_from
  chain-read zero s true ts rest xs e = let f : (let r : Result Tokens Fault = rule.full s true ts in r) ≡ Ok rest = ap (λ p. p.1) e in absurd (cc)
  chain-read zero s false ts rest xs e = let is-xs : [] ≡ xs = ap (λ p. p.0) e in let is-rest = same-tokens ts rest (ap (λ p. p.1) e) in
      subst (λ l. ChainRead s false ts rest l) is-xs (record { whole = tt; listed = tt; read = up-to is-rest nothing })
  chain-read (suc n) s waits ts rest xs e = by-step (rule.step left inner s waits ts) refl (good-step left inner s waits ts) (chain-read n) e
    where
      by-step : (p : Stepped) → rule.step left inner s waits ts ≡ p → IsGood waits p.0
          → ((s : Setting) (waits : Bool) (ts rest : Tokens) (xs : List Piece) → rule.chain_from left inner n s waits ts ≡ (xs, Ok rest) → ChainRead s waits ts rest xs)
          → rule.joined p (rule.chain_from left inner n s) ≡ (xs, Ok rest) → ChainRead s waits ts rest xs
      by-step (More x opens, us) is g more f =
          let c = rule.chain_from left inner n s opens us in
          let h : ChainRead s opens us rest c.0 = more s opens us rest c.0 (λ i. (c.0, (ap (λ p. p.1) f) i)) in
          subst (λ l. ChainRead s waits ts rest l) (ap (λ p. p.0) f)
          (let r : ChainRead s waits ts rest (x ∷ c.0) = record { whole = whole-piece waits opens x c.0 g.0 h.whole; listed = (g.1, h.listed); read = both (step-read s waits ts x opens us is) h.read } in r)
      by-step (Ended, us) is g more f = let h = step-stopped s waits ts us is in
          subst (λ l. ChainRead s waits ts rest l) (ap (λ p. p.0) f)
          (let r : ChainRead s waits ts rest [] = record { whole = whole-none waits h.done; listed = tt; read = up-to (sym h.here ∙ same-tokens us rest (ap (λ p. p.1) f)) nothing } in r)
      by-step (Broken x q, us) is g more f = let z : (let r : Result Tokens Fault = Err q in r) ≡ Ok rest = ap (λ p. p.1) f in absurd (cc)

  chain-stops : (n : ℕ) (s : Setting) (waits : Bool) (ts rest : Tokens) (xs : List Piece) → length ts ≤ n → rule.chain_from left inner n s waits ts ≡ (xs, Ok rest) → Stops s.region (first rest)
  unfolding rule.chain_from
  chain-stops zero s true ts rest xs few e = let f : (let r : Result Tokens Fault = rule.full s true ts in r) ≡ Ok rest = ap (λ p. p.1) e in absurd (cc)
  chain-stops zero s false ts rest xs few e = subst (λ l. Stops s.region (first l)) (same-tokens ts rest (ap (λ p. p.1) e)) (empty-stops s.region ts few)
  chain-stops (suc n) s waits ts rest xs few e = by-step (rule.step left inner s waits ts) refl (chain-stops n) e
    where
      by-step : (p : Stepped) → rule.step left inner s waits ts ≡ p
          → ((s : Setting) (waits : Bool) (ts rest : Tokens) (xs : List Piece) → length ts ≤ n → rule.chain_from left inner n s waits ts ≡ (xs, Ok rest) → Stops s.region (first rest))
          → rule.joined p (rule.chain_from left inner n s) ≡ (xs, Ok rest) → Stops s.region (first rest)
      by-step (More x opens, us) is more f =
          let c = rule.chain_from left inner n s opens us in
          let less : length us < length ts = shorter (piece-more s.region s.has_at x) (step-read s waits ts x opens us is) in
          more s opens us rest c.0 (omega (arith, less, few)) (λ i. (c.0, (ap (λ p. p.1) f) i))
      by-step (Ended, us) is more f = let h = step-stopped s waits ts us is in
          subst (λ l. Stops s.region (first l)) (sym h.here ∙ same-tokens us rest (ap (λ p. p.1) f)) h.stops
      by-step (Broken x q, us) is more f = let z : (let r : Result Tokens Fault = Err q in r) ≡ Ok rest = ap (λ p. p.1) f in absurd (cc)

pub good-nested : OneRightTree → (left : ℕ) → Good (nested left)
unfolding nested
good-nested law zero n s waits ts rest xs e = let z : (let r : Result Tokens Fault = (nested zero n s waits ts).1 in r) ≡ Ok rest = ap (λ p. p.1) e in absurd (cc)
good-nested law (suc left) n s waits ts rest xs e =
    (chain-read left (nested left) law (good-nested law left) n s waits ts rest xs e, λ few. chain-stops left (nested left) law (good-nested law left) n s waits ts rest xs few e)
