-- Whole readings: the laws.
use Rattle.std.proofs.Common.{◌≡◌, ℕ, zero, suc, ◌+◌, ◌-◌, ◌≤◌, ◌<◌, Bool, true, List, [], ◌∷◌, ◌++◌, length, take, drop, Result, Ok, Err, refl, sym, ap, subst, ◌∙◌, append_assoc, arith, nat_lt}
use Rattle.std.specs.List.{All}
use Rattle.std.proofs.lemmas.Bool.{true≢false, ltb-true, lt-ltb}
use Rattle.std.proofs.lemmas.List.{take-append-drop, length-append, length-drop}
use Rattle.std.proofs.lemmas.List.Elements.{All-nil, All-cons}
use Rattle.std.proofs.Math.Seq.{drop-append_seam}
use Rattle.tla_ast.specs.declared.token.Token.{Token}
use Rattle.tla_ast.specs.declared.fault.Fault.{Fault}
use Rattle.tla_ast.specs.declared.tree.Node.{Node}
use Rattle.tla_ast.specs.Listing.{Ends}
use Rattle.operator_chain.specs.declared.chain.Piece.{Piece}
use Rattle.operator_chain.specs.Chain.{OneRightTree}
use Rattle.token_reader.specs.Input.{Tokens, Outcome}
use Rattle.layout_parser.specs.Reading as rule
use Rattle.layout_parser.specs.Reading.{Chain, reading, nested, outermost, located, nestings_left}
use Rattle.layout_parser.specs.Laws.{IsReading, ReadInOrder, InsideTheRegion, EndIsExact, EndsBeforeTheLast, EndIsThePlace}
use Rattle.token_reader.specs.declared.setting.Setting.{Setting}
use Rattle.layout_parser.specs.Spelling.{Symbols, expression, MayUse, Spelled, none, token, of_operand, of_tree, of_no_bullet}
use Rattle.layout_parser.proofs.Steps.{Read, nothing, finish, on-finished, le}
use Rattle.layout_parser.proofs.Chains.{good-nested, more-length, some-used}

-- ---- each token may be used

abbrev Each : (Token → Type 0) → Tokens → Type 0
Each P [] = Unit {0}
Each P (t ∷ ts) = P t × Each P ts

each-append : (P : Token → Type 0) (xs ys : Tokens) → Each P xs → Each P ys → Each P (xs ++ ys)
each-append P [] ys h k = k
each-append P (x ∷ xs) ys h k = (h.0, each-append P xs ys h.1 k)

each-map : (P Q : Token → Type 0) → ((t : Token) → P t → Q t) → (xs : Tokens) → Each P xs → Each Q xs
each-map P Q f [] h = tt
each-map P Q f (x ∷ xs) h = (f x h.0, each-map P Q f xs h.1)

each-all : (P : Token → Type 0) (xs : Tokens) → Each P xs → All P xs
each-all P [] h = All-nil P
each-all P (x ∷ xs) h = All-cons P x xs h.0 (each-all P xs h.1)

wider : (region inner : ℕ) → region ≤ inner → (t : Token) → MayUse inner t → MayUse region t
wider region inner inside t h = let over : inner < t.place.column = ltb-true inner t.place.column h.0 in (lt-ltb region t.place.column (omega arith), h.1)

may-use : {region : ℕ} {has_at : Bool} {ys : Symbols} {used rest : Tokens} → Spelled region has_at ys used rest → Each (MayUse region) used
may-use none = tt
may-use (token t may fits g) = (may, may-use g)
may-use (of_no_bullet other g) = may-use g
may-use {region} (of_operand {used = used} {more = more} made parts g) = each-append (MayUse region) used more (may-use parts) (may-use g)
may-use {region} (of_tree {inner = inner} {used = used} {more = more} t is right listed inside stops parts g) =
    each-append (MayUse region) used more (each-map (MayUse inner) (MayUse region) (wider region inner inside) used (may-use parts)) (may-use g)

-- ---- readings

-- a reading: the chain that it was, and the tokens that it used
record Told (left : ℕ) (s : Setting) (ts : Tokens) (n : Node) (rest : Tokens) : Type 0 where
  pub xs : List Piece
  pub chain : nested left (length ts) s true ts ≡ (xs, Ok rest)
  pub read : Read s.region s.has_at ts rest (expression s.region s.has_at n ∷ [])

told : OneRightTree → (left : ℕ) (s : Setting) (ts : Tokens) (n : Node) (rest : Tokens) → IsReading left s ts n rest → Told left s ts n rest
unfolding rule.part
told law left s ts n rest e = let c : Chain = nested left (length ts) s true ts in record {
  xs = c.0;
  chain = (finish c n rest e).chain;
  read = on-finished law s c (le s.region) e (λ xs us at. let all = good-nested law left (length ts) s true ts us xs at in (all.0, all.1 (le (length ts)))) nothing;
}

pub in-order : OneRightTree → ReadInOrder
in-order law left s ts n rest e = let h = told law left s ts n rest e in (h.read.used, h.read.is, h.read.spelled)

pub inside : OneRightTree → InsideTheRegion
inside law left s ts n rest e = let h = told law left s ts n rest e in (
  h.read.used,
  h.read.is,
  each-all (λ t. nat_lt s.region t.place.column ≡ true) h.read.used
      (each-map (MayUse s.region) (λ t. nat_lt s.region t.place.column ≡ true) (λ t may. may.0) h.read.used (may-use h.read.spelled)),
)

-- ---- the end of a reading

pub exact : OneRightTree → EndIsExact
exact law left s ts n rest e = let h = told law left s ts n rest e in
    let all = good-nested law left (length ts) s true ts rest h.xs h.chain in
    all.1 (le (length ts))

-- ---- the last token

-- no token that may be used ends a list
ends-behind : (region : ℕ) (used rest : Tokens) → Each (MayUse region) used → Ends (used ++ rest) → Ends rest
ends-behind region [] rest each e = e
ends-behind region (t ∷ []) [] each e = absurd (true≢false (sym e ∙ each.0.1))
ends-behind region (t ∷ []) (u ∷ us) each e = e.1
ends-behind region (t ∷ u ∷ us) rest each e = ends-behind region (u ∷ us) rest each.1 e.1

pub before-last : OneRightTree → EndsBeforeTheLast
before-last law left s ts n rest ends e =
    let h = told law left s ts n rest e in
    let parts : length ts ≡ length h.read.used + length rest = ap length h.read.is ∙ length-append h.read.used rest in
    let some : 0 < length h.read.used = more-length h.read.used (some-used h.read.spelled tt) in
    (ends-behind s.region h.read.used rest (may-use h.read.spelled) (subst Ends h.read.is ends), omega arith)

-- ---- readings at a place of a list

same-pair : (p q : Node × ℕ) → (let r : Result (Node × ℕ) Fault = Ok p in r) ≡ Ok q → p ≡ q
same-pair p q e = ap of_ok e
  where
    of_ok : Result (Node × ℕ) Fault → Node × ℕ
    of_ok (Ok x) = x
    of_ok (Err f) = p

back : (ts pre rest : Tokens) → ts ≡ pre ++ rest → drop (length ts - length rest) ts ≡ rest
back ts pre rest e =
    let all : length ts ≡ length pre + length rest = ap length e ∙ length-append pre rest in
    let at : length ts - length rest ≡ length pre = omega arith in
    ap (λ k. drop k ts) at ∙ ap (λ l. drop (length pre) l) e ∙ drop-append_seam pre rest

pub at-place : OneRightTree → EndIsThePlace
unfolding reading
at-place law ts from region depth n to e = by-outcome (rule.expression (nestings_left depth) (outermost region) (drop from ts)) refl e
  where
    by-outcome : (r : Outcome Node) → rule.expression (nestings_left depth) (outermost region) (drop from ts) ≡ r → located ts r ≡ Ok (n, to) → IsReading (nestings_left depth) (outermost region) (drop from ts) n (drop to ts)
    by-outcome (Ok p) is f =
        let same = same-pair (p.0, length ts - length p.1) (n, to) f in
        let h = told law (nestings_left depth) (outermost region) (drop from ts) p.0 p.1 is in
        let split : ts ≡ (take from ts ++ h.read.used) ++ p.1 = sym (take-append-drop from ts) ∙ ap (λ l. take from ts ++ l) h.read.is ∙ sym (append_assoc (take from ts) h.read.used p.1) in
        let rest-is : p.1 ≡ drop to ts = sym (back ts (take from ts ++ h.read.used) p.1 split) ∙ ap (λ q. drop q.1 ts) same in
        is ∙ (λ i. Ok ((same i).0, rest-is i))
    by-outcome (Err x) is f = absurd (cc)

ends-drop : (from : ℕ) (ts : Tokens) → from < length ts → Ends ts → Ends (drop from ts)
ends-drop zero ts within e = e
ends-drop (suc n) [] within e = absurd e
ends-drop (suc n) (t ∷ []) within e = absurd (omega (arith, within))
ends-drop (suc n) (t ∷ u ∷ us) within e = ends-drop n (u ∷ us) (omega (arith, within)) e.1

more-ends : (ts : Tokens) → Ends ts → 0 < length ts
more-ends [] e = absurd e
more-ends (t ∷ ts) e = omega arith

-- where a reading at a place of a list ends
pub within-list : OneRightTree → EndsBeforeTheLast → (ts : Tokens) (from region depth : ℕ) (n : Node) (to : ℕ) → Ends ts → from < length ts → reading ts from region depth ≡ Ok (n, to) → (from < to) × (to < length ts)
within-list law last ts from region depth n to ends below e =
    let h = last (nestings_left depth) (outermost region) (drop from ts) n (drop to ts) (ends-drop from ts below ends) (at-place law ts from region depth n to e) in
    let some : 0 < length (drop to ts) = more-ends (drop to ts) h.0 in
    let fewer : length (drop to ts) < length (drop from ts) = h.1 in
    let a : length (drop from ts) ≡ length ts - from = length-drop from ts in
    let b : length (drop to ts) ≡ length ts - to = length-drop to ts in
    (omega arith, omega arith)
