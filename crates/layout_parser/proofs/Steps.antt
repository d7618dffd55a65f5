-- What a reader has used, step by step.
use Rattle.std.specs.Prelude.{◌≢◌}
use Rattle.std.proofs.Common.{length, ◌≡◌, ℕ, zero, suc, ◌≤◌, Bool, true, false, if◌then◌else◌, nat_lt, Result, List, [], ◌∷◌, ◌++◌, Option, Some, None, Ok, Err, refl, sym, subst, ap, ◌∙◌, append_assoc, append-nil, map, arith}
use Rattle.std.proofs.lemmas.Bool.{and_parts}
use Rattle.std.proofs.lemmas.Option.{none-some}
use Rattle.tla_ast.specs.declared.place.Place.{Place}
use Rattle.tla_ast.specs.declared.token.Token.{Token}
use Rattle.tla_ast.specs.declared.token.Tok.{Tok}
use Rattle.tla_ast.specs.declared.token.Tok.TheVariants as tok
use Rattle.tla_ast.specs.declared.fault.Fault.{Fault}
use Rattle.tla_ast.specs.declared.tree.Node.{Node}
use Rattle.tla_ast.specs.declared.tree.Decl.{Decl}
use Rattle.tla_ast.specs.Listing.{is_last}
use Rattle.token_reader.specs.declared.mark.Mark.{Mark}
use Rattle.token_reader.specs.declared.mark.Mark.TheVariants as m
use Rattle.token_reader.specs.declared.setting.Setting.{Setting}
use Rattle.token_reader.specs.declared.setting.Stop.{Stop}
use Rattle.token_reader.specs.Marks.{Text, mark_of, spelling, is_final}
use Rattle.token_reader.specs.Input.{Tokens, Outcome, Reader, ◌>>◌, first, next, here, mark, sees, eat, expect, name, declared, after}
use Rattle.token_reader.specs.Lists.{gathered, gathered_from, put_last, ask}
use Rattle.token_reader.proofs.Steps.{got, refused, same-end, by-test, by-reader, after-no, after-yes, not-empty, not-final, marks-same}
use Rattle.std_names.specs.declared.operators.Fix.{Fix}
use Rattle.std_names.specs.declared.operators.Fix.TheVariants.{Prefix, Infix, Postfix}
use Rattle.std_names.specs.Operators.{operator, prefix_rows, infix_rows, postfix_rows}
use Rattle.operator_chain.specs.declared.chain.Operator.{Operator}
use Rattle.operator_chain.specs.declared.chain.Piece.{Piece}
use Rattle.operator_chain.specs.Tree.{Tree, node_of, flat, is_right}
use Rattle.operator_chain.specs.Chain.{IsWhole, OneRightTree, tree_of, fault_of}
use Rattle.operator_chain.specs.Listed.{AreListed}
use Rattle.layout_parser.specs.Reading.{Chain, ChainReader, operator_at, operator_in, finished, by_tree}
use Rattle.layout_parser.specs.Spelling.{no_bullet, of_no_bullet, Stops, Symbol, sign, sign_at, word, field_name, operand, operator_sign, expression, Symbols, Fits, MayUse, Operand, Subscript, pieces, Spelled, none, token, of_operand, of_tree}
use Rattle.layout_parser.specs.Spelling as spell

-- ---- tokens

-- the tokens up to `rest` are a spelling of the symbols
pub record Read (region : ℕ) (has_at : Bool) (ts rest : Tokens) (ys : Symbols) : Type 0 where
  pub used : Tokens
  pub is : ts ≡ used ++ rest
  pub spelled : Spelled region has_at ys used rest

-- the next token lies in the region, has this mark and ends no list
pub record Stands (region : ℕ) (k : Mark) (ts : Tokens) : Type 0 where
  pub may : MayUse region (first ts)
  pub marked : mark_of (first ts).tok ≡ k
  pub some : ts ≡ first ts ∷ next ts

pub stands-at : (region : ℕ) (k : Mark) (ts : Tokens) → is_final k ≡ false → nat_lt region (here ts).column ≡ true → mark ts ≡ k → Stands region k ts
unfolding mark
stands-at region k ts kept inside marked =
    let last : is_last (first ts).tok ≡ false = not-final ts k kept marked in
    record { may = (inside, last); marked = marked; some = not-empty ts last }

pub stands : (s : Setting) (k : Mark) (ts : Tokens) → is_final k ≡ false → sees s k ts ≡ true → Stands s.region k ts
unfolding sees
stands s k ts kept e = stands-at s.region k ts kept (and_parts _ _ e).0 (marks-same (mark ts) k (and_parts _ _ e).1)

-- ---- reads

pub nothing : {region : ℕ} {has_at : Bool} {ts : Tokens} → Read region has_at ts ts []
nothing = record { used = []; is = refl; spelled = none }

pub on-token : {region : ℕ} {has_at : Bool} {ts rest : Tokens} {y : Symbol} {ys : Symbols} → MayUse region (first ts) → Fits y (first ts) → ts ≡ first ts ∷ next ts
    → Read region has_at (next ts) rest ys → Read region has_at ts rest (y ∷ ys)
on-token {ts = ts} may fits some r = record { used = first ts ∷ r.used; is = some ∙ ap (λ l. first ts ∷ l) r.is; spelled = token (first ts) may fits r.spelled }

pub on-sign : {region : ℕ} {has_at : Bool} {k : Mark} {ts rest : Tokens} {ys : Symbols} → Stands region k ts → Read region has_at (next ts) rest ys → Read region has_at ts rest (sign k ∷ ys)
on-sign h r = on-token h.may h.marked h.some r

pub on-sign-at : {region : ℕ} {has_at : Bool} {k : Mark} {ts rest : Tokens} {ys : Symbols} → Stands region k ts → Read region has_at (next ts) rest ys → Read region has_at ts rest (sign_at k (here ts) ∷ ys)
on-sign-at h r = on-token h.may (h.marked, refl) h.some r

pub on-word : {region : ℕ} {has_at : Bool} {k : Mark} {ts rest : Tokens} {ys : Symbols} → Stands region k ts → Read region has_at (next ts) rest ys
    → Read region has_at ts rest (word k (spelling (first ts).tok) (here ts) ∷ ys)
on-word h r = on-token h.may (h.marked, refl, refl) h.some r

joined : {region : ℕ} {has_at : Bool} {ys zs : Symbols} {used mid more rest : Tokens} → Spelled region has_at ys used mid → mid ≡ more ++ rest → Spelled region has_at zs more rest
    → Spelled region has_at (ys ++ zs) (used ++ more) rest
joined none is h = h
joined (token t may fits g) is h = token t may fits (joined g is h)
joined {more = more} {rest = rest} (of_no_bullet {k = k} {column = column} {used = a} other g) is h =
    of_no_bullet (subst (λ l. mark_of (first l).tok ≡ k → (first l).place.column ≢ column) (ap (λ l. a ++ l) is ∙ sym (append_assoc a more rest)) other) (joined g is h)
joined {region} {has_at} {zs = zs} {more = more} {rest = rest} (of_operand {n = n} {parts = parts} {ys = ys} {used = a} {more = b} made inside g) is h =
    subst (λ l. Spelled region has_at (operand n ∷ (ys ++ zs)) l rest) (sym (append_assoc a b more))
    (of_operand made (subst (Spelled region has_at parts a) (ap (λ l. b ++ l) is ∙ sym (append_assoc b more rest)) inside) (joined g is h))
joined {region} {has_at} {zs = zs} {more = more} {rest = rest} (of_tree {inner = inner} {at = at} {n = n} {ys = ys} {used = a} {more = b} t node right listed wide stops inside g) is h =
    let on : b ++ _ ≡ (b ++ more) ++ rest = ap (λ l. b ++ l) is ∙ sym (append_assoc b more rest) in
    subst (λ l. Spelled region has_at (expression inner at n ∷ (ys ++ zs)) l rest) (sym (append_assoc a b more))
    (of_tree t node right listed wide (subst (λ l. Stops inner (first l)) on stops) (subst (Spelled inner at (pieces inner at (flat t)) a) on inside) (joined g is h))

pub both : {region : ℕ} {has_at : Bool} {ts mid rest : Tokens} {ys zs : Symbols} → Read region has_at ts mid ys → Read region has_at mid rest zs → Read region has_at ts rest (ys ++ zs)
both {region} {has_at} {rest = rest} {ys = ys} p q = record {
  used = p.used ++ q.used;
  is = p.is ∙ ap (λ l. p.used ++ l) q.is ∙ sym (append_assoc p.used q.used rest);
  spelled = joined p.spelled q.is q.spelled;
}

pub on-no-bullet : {region : ℕ} {has_at : Bool} {ts rest : Tokens} {k : Mark} {column : ℕ} {ys : Symbols} → (mark_of (first ts).tok ≡ k → (here ts).column ≢ column) → Read region has_at ts rest ys
    → Read region has_at ts rest (no_bullet k column ∷ ys)
on-no-bullet {k = k} {column = column} other r =
    record { used = r.used; is = r.is; spelled = of_no_bullet (subst (λ l. mark_of (first l).tok ≡ k → (first l).place.column ≢ column) r.is other) r.spelled }

-- the same with another end
pub up-to : {region : ℕ} {has_at : Bool} {ts mid rest : Tokens} {ys : Symbols} → mid ≡ rest → Read region has_at ts mid ys → Read region has_at ts rest ys
up-to {region} {has_at} {ts = ts} {ys = ys} e h = subst (λ l. Read region has_at ts l ys) e h

-- ---- the small readers

-- the token that a test asks is read
pub is-next : {A : Type 0} {b : Bool} {x : A} (f : Fault) {ts mid : Tokens} {a : A} → (let r : Outcome A = if b then Ok (x, ts) else Err f in r) ≡ Ok (a, mid) → (b ≡ true) × (x ≡ a) × (ts ≡ mid)
is-next {b = true} {x = x} f {ts = ts} {mid = mid} {a = a} e = (refl, (same-end x a ts mid e).0, (same-end x a ts mid e).1)
is-next {b = false} f e = absurd (cc)

-- a token that was asked for has been read
pub eaten : (s : Setting) (before : Stop) (k : Mark) {B : Type 0} {ts : Tokens} (q : Reader B) {b : B} {rest : Tokens} {X : Type 0} → is_final k ≡ false
    → (expect s before k >> q) ts ≡ Ok (b, rest) → (Stands s.region k ts → q (next ts) ≡ Ok (b, rest) → X) → X
unfolding expect
eaten s before k {ts = ts} q {b = b} {rest = rest} kept e go = got {o = expect s before k ts} {f = λ _. q} e (λ u mid e1 e2. let h = is-next _ e1 in
    go (stands s k ts kept h.0) (subst (λ l. q l ≡ Ok (b, rest)) (sym h.2) e2))

pub on-declared : (s : Setting) (before : Stop) {d : Decl} {ts mid rest : Tokens} {has_at : Bool} {ys : Symbols} → declared s before ts ≡ Ok (d, mid)
    → Read s.region has_at mid rest ys → Read s.region has_at ts rest (spell.declared d ∷ ys)
unfolding declared
on-declared s before {ts = ts} {rest = rest} {has_at = has_at} {ys = ys} e r = let h = is-next _ e in let at : Stands s.region m.Name ts = stands s m.Name ts refl h.0 in
    on-token at.may (at.marked, sym h.1) at.some (subst (λ l. Read s.region has_at l rest ys) (sym h.2) r)

pub on-name : (s : Setting) (before : Stop) {x : Text} {ts mid rest : Tokens} {has_at : Bool} {ys : Symbols} → name s before ts ≡ Ok (x, mid)
    → Read s.region has_at mid rest ys → Read s.region has_at ts rest (field_name x ∷ ys)
unfolding name
on-name s before {ts = ts} {rest = rest} {has_at = has_at} {ys = ys} e r = let h = is-next _ e in let at : Stands s.region m.Name ts = stands s m.Name ts refl h.0 in
    on-token at.may (at.marked, h.1) at.some (subst (λ l. Read s.region has_at l rest ys) (sym h.2) r)

-- ---- operators

no-spelling : (t : Tok) (fix : Fix) (row : ℕ × ℕ × Bool) → operator (spelling t) fix ≡ Some row → is_last t ≡ false
unfolding operator prefix_rows infix_rows postfix_rows
no-spelling tok.End Prefix row e = absurd (none-some _ e)
no-spelling tok.End Infix row e = absurd (none-some _ e)
no-spelling tok.End Postfix row e = absurd (none-some _ e)
no-spelling tok.Eof Prefix row e = absurd (none-some _ e)
no-spelling tok.Eof Infix row e = absurd (none-some _ e)
no-spelling tok.Eof Postfix row e = absurd (none-some _ e)
no-spelling _ fix row e = refl

pub operator-last : (t : Token) (fix : Fix) (r : Option (ℕ × ℕ × Bool)) (o : Operator) → operator (spelling t.tok) fix ≡ r → operator_at t r ≡ Some o → is_last t.tok ≡ false
operator-last t fix (Some row) o is e = no-spelling t.tok fix row is
operator-last t fix None o is e = absurd (none-some _ e)

pub on-operator : (s : Setting) (fix : Fix) {o : Operator} {ts rest : Tokens} {has_at : Bool} {ys : Symbols} → operator_in s fix ts ≡ Some o → Read s.region has_at (next ts) rest ys
    → Read s.region has_at ts rest (operator_sign fix o ∷ ys)
unfolding operator_in
on-operator s fix {o = o} {ts = ts} {rest = rest} {has_at = has_at} {ys = ys} e r = by-test e
    (λ inside is. let last : is_last (first ts).tok ≡ false = operator-last (first ts) fix _ o refl is in on-token (inside, last) is (not-empty ts last) r)
    (λ _ none-is. absurd (none-some _ none-is))

-- ---- tests of the next token

pub on-eat : (s : Setting) {k : Mark} {ts rest : Tokens} {has_at : Bool} {ys : Symbols} → is_final k ≡ false → sees s k ts ≡ true → Read s.region has_at (after s k ts) rest ys → Read s.region has_at ts rest (sign k ∷ ys)
on-eat s {k = k} {ts = ts} {rest = rest} {has_at = has_at} {ys = ys} kept seen r = on-sign (stands s k ts kept seen) (subst (λ l. Read s.region has_at l rest ys) (after-yes s k ts seen) r)

pub on-no : (s : Setting) (k : Mark) {ts rest : Tokens} {has_at : Bool} {ys : Symbols} → sees s k ts ≡ false → Read s.region has_at (after s k ts) rest ys → Read s.region has_at ts rest ys
on-no s k {ts = ts} {rest = rest} {has_at = has_at} {ys = ys} unseen r = subst (λ l. Read s.region has_at l rest ys) (after-no s k ts unseen) r

-- ---- lists

-- everything put to what was found
abbrev pub puts : {A B Y : Type 0} → (B → A → B) → (Y → A) → B → List Y → B
puts put form found [] = found
puts put form found (y ∷ ys) = puts put form (put found (form y)) ys

-- an item has been read, which is this form of its meaning
pub record ItemRead {A Y : Type 0} (region : ℕ) (has_at : Bool) (form : Y → A) (symbols : Y → Symbols) (a : A) (ts rest : Tokens) : Type 0 where
  pub item : Y
  pub is : a ≡ form item
  pub read : Read region has_at ts rest (symbols item)

-- a list has been read: what is read is this whole of its items
pub record ListRead {B Y : Type 0} (region : ℕ) (has_at : Bool) (whole : List Y → B) (symbols : Y → Symbols) (sep : Symbols) (b : B) (ts rest : Tokens) : Type 0 where
  pub head : Y
  pub tail : List Y
  pub are : b ≡ whole (head ∷ tail)
  pub read : Read region has_at ts rest (spell.between sep (symbols head) (map symbols tail))

-- the test after an item reads these symbols where a further one comes, and nothing where none does
abbrev pub Separates : ℕ → Bool → Symbols → Reader Bool → Type 0
Separates region has_at sep goes_on = (ts mid : Tokens) (more : Bool) → goes_on ts ≡ Ok (more, mid) → (more ≡ true → Read region has_at ts mid sep) × (more ≡ false → ts ≡ mid)

pub mark-separates : (s : Setting) (k : Mark) → is_final k ≡ false → Separates s.region s.has_at (sign k ∷ []) (eat s k)
mark-separates s k kept ts mid more e = let z = same-end (sees s k ts) more (after s k ts) mid e in (
  λ yes. let seen : sees s k ts ≡ true = z.0 ∙ yes in on-sign (stands s k ts kept seen) (up-to (sym (after-yes s k ts seen) ∙ z.1) nothing),
  λ no. sym (after-no s k ts (z.0 ∙ no)) ∙ z.1,
)

pub ask-separates : (region : ℕ) (has_at : Bool) (test : Tokens → Bool) → Separates region has_at [] (ask test)
ask-separates region has_at test ts mid more e = let z = same-end (test ts) more ts mid e in (λ yes. up-to z.1 nothing, λ no. z.1)

-- the one induction on lists
pub list-read : {A B Y : Type 0} (region : ℕ) (has_at : Bool) (put : B → A → B) (form : Y → A) (symbols : Y → Symbols) (sep : Symbols) (goes_on : Reader Bool) (item : Reader A)
    → ((ts mid : Tokens) (a : A) → item ts ≡ Ok (a, mid) → ItemRead region has_at form symbols a ts mid) → Separates region has_at sep goes_on
    → (found : B) (whole : List Y → B) → ((ys : List Y) → puts put form found ys ≡ whole ys)
    → (ts : Tokens) (b : B) (rest : Tokens) → gathered goes_on item put found ts ≡ Ok (b, rest) → ListRead region has_at whole symbols sep b ts rest
unfolding gathered gathered_from
list-read {A} {B} region has_at put form symbols sep goes_on item reads separates found whole is ts b rest e =
    let h = turns (length ts) found ts e in record { head = h.head; tail = h.tail; are = h.are ∙ is (h.head ∷ h.tail); read = h.read }
  where
    turns : (n : ℕ) (found : B) (ts : Tokens) → gathered_from n goes_on item put found ts ≡ Ok (b, rest) → ListRead region has_at (puts put form found) symbols sep b ts rest
    turns zero found ts e = refused e
    turns (suc n) found ts e = got {o = item ts} e (λ a t1 e1 f1. got {o = goes_on t1} f1 (λ more t2 e2 f2. let one = reads ts t1 a e1 in let next-is = separates t1 t2 more e2 in by-reader {b = more} (gathered_from n goes_on item put (put found a)) _ f2
        (λ yes f3. let h = turns n (put found a) t2 f3 in
        record { head = one.item; tail = h.head ∷ h.tail; are = h.are ∙ ap (λ x. puts put form (put found x) (h.head ∷ h.tail)) one.is; read = both one.read (both (next-is.0 yes) h.read) })
        (λ no f3. let z = same-end (put found a) b t2 rest f3 in
        record { head = one.item; tail = []; are = sym z.0 ∙ ap (λ x. put found x) one.is; read = up-to (next-is.1 no ∙ z.1) one.read })))

pub puts-last : {A Y : Type 0} (form : Y → A) (found : List A) (ys : List Y) → puts put_last form found ys ≡ found ++ map form ys
puts-last form found [] = sym (append-nil found)
puts-last form found (y ∷ ys) = puts-last form (found ++ form y ∷ []) ys ∙ append_assoc found (form y ∷ []) (map form ys)

pub puts-same : {A : Type 0} (found ys : List A) → puts put_last (λ y. y) found ys ≡ found ++ ys
puts-same found [] = sym (append-nil found)
puts-same found (y ∷ ys) = puts-same (found ++ y ∷ []) ys ∙ append_assoc found (y ∷ []) ys

-- ---- chains

-- the pieces of a chain have been read, and the chain is whole
pub record ChainRead (s : Setting) (waits : Bool) (ts rest : Tokens) (xs : List Piece) : Type 0 where
  pub whole : IsWhole waits xs
  pub listed : AreListed xs
  pub read : Read s.region s.has_at ts rest (pieces s.region s.has_at xs)

-- what a reader of chains reads is a whole chain, and where it may have as many pieces as there are tokens, its end is exact
abbrev pub Good : ChainReader → Type 0
Good inner = (n : ℕ) (s : Setting) (waits : Bool) (ts rest : Tokens) (xs : List Piece) → inner n s waits ts ≡ (xs, Ok rest)
    → ChainRead s waits ts rest xs × (length ts ≤ n → Stops s.region (first rest))

-- what a chain that was finished is
pub record Finished (c : Chain) (n : Node) (rest : Tokens) : Type 0 where
  pub tree : Tree
  pub is : tree_of c.0 ≡ Some tree
  pub node : n ≡ node_of tree
  pub chain : c ≡ (c.0, Ok rest)

pub finish : (c : Chain) (n : Node) (rest : Tokens) → finished c ≡ Ok (n, rest) → Finished c n rest
unfolding finished
finish c n rest e = go (tree_of c.0) (fault_of c.0) c.1 refl refl e
  where
    go : (o : Option Tree) (w : Option Place) (r : Result Tokens Fault) → tree_of c.0 ≡ o → c.1 ≡ r → by_tree o w r ≡ Ok (n, rest) → Finished c n rest
    go (Some t) w (Ok us) is end e = let h = same-end (node_of t) n us rest e in
        record { tree = t; is = is; node = sym h.0; chain = λ i. (c.0, (end ∙ ap Ok h.1) i) }
    go (Some t) w (Err f) is end e = absurd (cc)
    go None (Some p) r is end e = absurd (cc)
    go None None r is end e = absurd (cc)

pub le : (n : ℕ) → n ≤ n
le n = omega arith

-- an expression is read, whose chain was
pub on-finished : OneRightTree → (s : Setting) {region : ℕ} {has_at : Bool} {ts mid rest : Tokens} {n : Node} {ys : Symbols} (c : Chain) → region ≤ s.region → finished c ≡ Ok (n, mid)
    → ((xs : List Piece) (us : Tokens) → c ≡ (xs, Ok us) → ChainRead s true ts us xs × Stops s.region (first us))
    → Read region has_at mid rest ys → Read region has_at ts rest (expression s.region s.has_at n ∷ ys)
on-finished law s {region = region} {ts = ts} {mid = mid} {rest = rest} {n = n} {ys = ys} c inside e chain r =
    let f : Finished c n mid = finish c n mid e in
    let both-parts = chain c.0 mid f.chain in
    let h : ChainRead s true ts mid c.0 = both-parts.0 in
    let tree : (flat f.tree ≡ c.0) × (is_right f.tree ≡ true) = (law c.0 f.tree h.whole h.listed).1 f.is in
    record {
      used = h.read.used ++ r.used;
      is = h.read.is ∙ ap (λ l. h.read.used ++ l) r.is ∙ sym (append_assoc h.read.used r.used rest);
      spelled = of_tree f.tree f.node tree.1 (subst AreListed (sym tree.0) h.listed) inside (subst (λ l. Stops s.region (first l)) r.is both-parts.1)
          (subst (Spelled s.region s.has_at (pieces s.region s.has_at (flat f.tree)) h.read.used) r.is
          (subst (λ l. Spelled s.region s.has_at (pieces s.region s.has_at l) h.read.used mid) (sym tree.0) h.read.spelled)) r.spelled;
    }

-- an operand has been read
pub record Derives (region : ℕ) (has_at : Bool) (ts rest : Tokens) (n : Node) : Type 0 where
  pub parts : Symbols
  pub made : Operand region has_at n parts
  pub read : Read region has_at ts rest parts

pub derived : {region : ℕ} {has_at : Bool} {ts mid rest : Tokens} {a n : Node} {parts : Symbols} → (let x : Outcome Node = Ok (a, mid) in x) ≡ Ok (n, rest) → Operand region has_at a parts → Read region has_at ts mid parts
    → Derives region has_at ts rest n
derived {region = region} {has_at = has_at} {ts = ts} {mid = mid} {rest = rest} {a = a} {n = n} {parts = parts} e made r = let h = same-end a n mid rest e in
    record { parts = parts; made = subst (λ x. Operand region has_at x parts) h.0 made; read = up-to h.1 r }

-- the same, where the node is another one's equal
pub derived-as : {region : ℕ} {has_at : Bool} {ts mid rest : Tokens} {a b n : Node} {parts : Symbols} → (let x : Outcome Node = Ok (a, mid) in x) ≡ Ok (n, rest) → a ≡ b → Operand region has_at b parts
    → Read region has_at ts mid parts → Derives region has_at ts rest n
derived-as {region = region} {has_at = has_at} {parts = parts} e same made r = derived e (subst (λ x. Operand region has_at x parts) (sym same) made) r

-- a subscript has been read
pub record Subscribes (region : ℕ) (has_at : Bool) (ts rest : Tokens) (n : Node) : Type 0 where
  pub parts : Symbols
  pub made : Subscript region has_at n parts
  pub read : Read region has_at ts rest parts

pub subscribed : {region : ℕ} {has_at : Bool} {ts mid rest : Tokens} {a n : Node} {parts : Symbols} → (let x : Outcome Node = Ok (a, mid) in x) ≡ Ok (n, rest) → Subscript region has_at a parts → Read region has_at ts mid parts
    → Subscribes region has_at ts rest n
subscribed {region = region} {has_at = has_at} {ts = ts} {mid = mid} {rest = rest} {a = a} {n = n} {parts = parts} e made r = let h = same-end a n mid rest e in
    record { parts = parts; made = subst (λ x. Subscript region has_at x parts) h.0 made; read = up-to h.1 r }

pub subscribed-as : {region : ℕ} {has_at : Bool} {ts mid rest : Tokens} {a b n : Node} {parts : Symbols} → (let x : Outcome Node = Ok (a, mid) in x) ≡ Ok (n, rest) → a ≡ b → Subscript region has_at b parts
    → Read region has_at ts mid parts → Subscribes region has_at ts rest n
subscribed-as {region = region} {has_at = has_at} {parts = parts} e same made r = subscribed e (subst (λ x. Subscript region has_at x parts) (sym same) made) r

pub on-operand : {region : ℕ} {has_at : Bool} {ts mid rest : Tokens} {n : Node} {parts ys : Symbols} → Operand region has_at n parts → Read region has_at ts mid parts → Read region has_at mid rest ys
    → Read region has_at ts rest (operand n ∷ ys)
on-operand {region} {has_at} {rest = rest} {parts = parts} made p q = record {
  used = p.used ++ q.used;
  is = p.is ∙ ap (λ l. p.used ++ l) q.is ∙ sym (append_assoc p.used q.used rest);
  spelled = of_operand made (subst (Spelled region has_at parts p.used) q.is p.spelled) q.spelled;
}

-- a sign at a place is that sign
pub at-any-place : {region : ℕ} {has_at : Bool} {ts rest : Tokens} {k : Mark} {place : Place} {ys : Symbols} → Read region has_at ts rest (sign_at k place ∷ ys) → Read region has_at ts rest (sign k ∷ ys)
at-any-place r = record { used = r.used; is = r.is; spelled = forget r.spelled }
  where
    forget : {region : ℕ} {has_at : Bool} {used rest : Tokens} {k : Mark} {place : Place} {ys : Symbols} → Spelled region has_at (sign_at k place ∷ ys) used rest → Spelled region has_at (sign k ∷ ys) used rest
    forget (token t may fits g) = token t may fits.0 g

pub up-from : {region : ℕ} {has_at : Bool} {ts mid rest : Tokens} {ys : Symbols} → ts ≡ mid → Read region has_at mid rest ys → Read region has_at ts rest ys
up-from {region} {has_at} {rest = rest} {ys = ys} e h = subst (λ l. Read region has_at l rest ys) (sym e) h

-- a sign behind symbols, and more symbols
pub behind-sign : {region : ℕ} {has_at : Bool} {ts mid rest : Tokens} {zs : Symbols} (ys : Symbols) (y : Symbol) → Read region has_at ts mid (ys ++ y ∷ []) → Read region has_at mid rest zs
    → Read region has_at ts rest (ys ++ y ∷ zs)
behind-sign {region} {has_at} {ts} {mid} {rest} {zs} ys y h r = subst (λ l. Read region has_at ts rest l) (append_assoc ys (y ∷ []) zs) (both h r)
