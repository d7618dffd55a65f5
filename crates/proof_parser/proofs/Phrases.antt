-- What has been read in the grammar of expressions.
use Rattle.std.proofs.Common.{◌≡◌, ℕ, ◌+◌, ◌-◌, false, if◌then◌else◌, List, [], ◌∷◌, length, map, Ok, refl, sym, ap, subst, ◌∙◌, arith}
use Rattle.operator_chain.specs.Chain.{OneRightTree}
use Rattle.proof_parser.specs.Names.{Node, Decl, Def, roll-Def}
use Rattle.token_reader.specs.declared.mark.Mark.TheVariants as m
use Rattle.token_reader.specs.declared.setting.Stop.TheVariants as stop
use Rattle.token_reader.specs.Marks.{spelling}
use Rattle.token_reader.specs.Input.{Tokens, and_then, first, next, here, sees, eat, expect, declared, after, pure, ◌<$>◌}
use Rattle.token_reader.specs.Lists.{put_last, ask}
use Rattle.token_reader.proofs.Steps.{got, same-end, by-reader, after-no, after-yes}
use Rattle.layout_parser.specs.Reading as reading
use Rattle.layout_parser.specs.Reading.{nested}
use Rattle.layout_parser.specs.Spelling as spell
use Rattle.layout_parser.proofs.Chains.{good-nested}
use Rattle.layout_parser.proofs.Readers as readers
use Rattle.layout_parser.proofs.Steps.{Read, Stands, ItemRead, ListRead, nothing, on-sign, on-declared, both, up-to, behind-sign, is-next, stands, eaten, list-read, mark-separates, ask-separates, puts, puts-last, puts-same}
use Rattle.proof_parser.specs.Modules as rule
use Rattle.proof_parser.specs.Modules.{outside}
use Rattle.proof_parser.specs.Spelling.{same, blanks, arguments, constant}

-- the tokens up to `rest` are a spelling of the symbols, in no bracket
abbrev pub Spelt : Tokens → Tokens → spell.Symbols → Type 0
Spelt = Read 0 false

-- ---- constants

counted : (n : ℕ) (xs : List (Unit {0})) → puts (λ k _. k + 1) (λ x. x) n xs ≡ n + length xs
counted n [] = omega arith
counted n (x ∷ xs) = omega (arith, counted (n + 1) xs)

abbrev blank : Unit {0} → spell.Symbols
blank x = spell.sign m.Underscore ∷ []

blanks-are : (x : Unit {0}) (xs : List (Unit {0})) → spell.between spell.comma (blank x) (map blank xs) ≡ blanks (length xs)
blanks-are x [] = refl
blanks-are x (y ∷ ys) = ap (λ l. spell.sign m.Underscore ∷ spell.sign m.Comma ∷ l) (blanks-are y ys)

blank-read : (ts mid : Tokens) (x : Unit {0}) → rule.blank ts ≡ Ok (x, mid) → ItemRead 0 false (λ y. y) blank x ts mid
unfolding rule.blank expect
blank-read ts mid x e = let h = is-next _ e in record { item = x; is = refl; read = on-sign (stands outside m.Underscore ts refl h.0) (up-to h.2 nothing) }

arguments-read : (ts : Tokens) (n : ℕ) (rest : Tokens) → Stands 0 m.OpenParen ts → rule.arguments (next ts) ≡ Ok (n, rest) → Spelt ts rest (arguments n)
unfolding rule.arguments rule.blanks
arguments-read ts n rest at e = got {o = rule.blanks (next ts)} e (λ k mid e1 f1. eaten outside stop.Other m.CloseParen _ refl f1 (λ close f2.
    let h = list-read 0 false (λ k _. k + 1) (λ x. x) blank spell.comma (eat outside m.Comma) rule.blank blank-read (mark-separates outside m.Comma refl) 0 length (λ xs. omega (arith, counted 0 xs)) (next ts) k mid e1 in
    let z = same-end k n _ rest f2 in
    subst (λ l. Spelt ts rest (arguments l)) (sym h.are ∙ z.0)
    (on-sign at (both (subst (λ l. Spelt (next ts) mid l) (blanks-are h.head h.tail) h.read) (on-sign close (up-to z.1 nothing))))))

constant-read : (ts mid : Tokens) (d : Decl) → rule.constant ts ≡ Ok (d, mid) → ItemRead 0 false (λ x. x) constant d ts mid
unfolding rule.constant declared
constant-read ts mid d e = got {o = declared outside stop.Other ts} e (λ x t1 e1 f1. record { item = d; is = refl; read = subst (Named t1) (is-next _ e1).1 (rest t1) e1 f1 })
  where
    with-arity : ℕ → Decl
    with-arity n = record { name = spelling (first ts).tok; arity = n; place = here ts }

    -- what follows this name
    Named : Tokens → Decl → Type 0
    Named t1 x = declared outside stop.Other ts ≡ Ok (x, t1) → and_then (eat outside m.OpenParen t1) (λ b. if b then ((λ n. record x { arity = n }) <$> rule.arguments) else pure x) ≡ Ok (d, mid)
        → Spelt ts mid (constant d)

    rest : (t1 : Tokens) → Named t1 (with-arity 0)
    rest t1 e1 f1 = by-reader {b = sees outside m.OpenParen t1} _ _ f1
        (λ paren f2. got {o = rule.arguments (after outside m.OpenParen t1)} f2 (λ n t2 e2 f3. let z = same-end (with-arity n) d t2 mid f3 in
        let read = arguments-read t1 n t2 (stands outside m.OpenParen t1 refl paren) (subst (λ l. rule.arguments l ≡ Ok (n, t2)) (after-yes outside m.OpenParen t1 paren) e2) in
        subst (λ c. Spelt ts mid (constant c)) z.0 (on-declared outside stop.Other e1 (up-to z.1 read))))
        (λ no f2. let z = same-end (with-arity 0) d (after outside m.OpenParen t1) mid f2 in
        subst (λ c. Spelt ts mid (constant c)) z.0 (on-declared outside stop.Other e1 (up-to (sym (after-no outside m.OpenParen t1 no) ∙ z.1) nothing)))

pub constants-read : (ts : Tokens) (ds : List Decl) (rest : Tokens) → rule.constants ts ≡ Ok (ds, rest) → ListRead 0 false (λ xs. xs) constant spell.comma ds ts rest
unfolding rule.constants
constants-read = list-read 0 false put_last (λ x. x) constant spell.comma (eat outside m.Comma) rule.constant constant-read (mark-separates outside m.Comma refl) [] (λ xs. xs) (puts-same [])

module _ (law : OneRightTree) (n : ℕ) where
  pub on-part : {ts mid rest : Tokens} {x : Node} {ys : spell.Symbols} → reading.expression n outside ts ≡ Ok (x, mid) → Spelt mid rest ys → Spelt ts rest (same x ∷ ys)
  on-part e r = readers.on-same n (nested n) law (good-nested law n) outside e r

  pub definition : (ts mid : Tokens) (d : Def) → rule.definition n ts ≡ Ok (d, mid) → ItemRead 0 false spell.def_of (spell.definition 0 false) d ts mid
  unfolding rule.definition rule.expression
  definition ts mid d e = got {o = declared outside stop.Other ts} e (λ x t1 e1 f1. got {o = reading.rule (n - 1) reading.head outside t1} f1 (λ ds t2 e2 f2. got {o = reading.expression n outside t2} f2 (λ body t3 e3 f3.
      let z = same-end (roll-Def (record { name = x.name; params = ds; body = body; place = x.place })) d t3 mid f3 in
      let head = readers.head (n - 1) (nested (n - 1)) law (good-nested law (n - 1)) outside t1 ds t2 e2 in
      record { item = (x, ds, body); is = sym z.0; read = on-declared outside stop.Other e1 (behind-sign (spell.parameters ds) (spell.sign m.Defines) head (on-part e3 (up-to z.1 nothing))) })))

  pub definitions : (ts : Tokens) (ds : List Def) (rest : Tokens) → rule.definitions n ts ≡ Ok (ds, rest) → ListRead 0 false (map spell.def_of) (spell.definition 0 false) [] ds ts rest
  unfolding rule.definitions
  definitions = list-read 0 false put_last spell.def_of (spell.definition 0 false) [] (ask (sees outside m.Name)) (rule.definition n)
      definition (ask-separates 0 false (sees outside m.Name)) [] (map spell.def_of) (puts-last spell.def_of [])
