-- Which token is the `\in` of a bound.
use Rattle.std.proofs.Common.{◌≡◌, Bool, true, false, ◌&&◌, if◌then◌else◌, nat_eq, List, [], ◌∷◌, Some, refl, sym, ap, subst, ◌∙◌}
use Rattle.std.specs.Prelude.{codes}
use Rattle.std.specs.Cmp.Lexicographic.{pointwise, bytes_decides}
use Rattle.std.proofs.lemmas.Bool.{and_parts, true≢false}
use Rattle.tla_ast.specs.declared.token.Token.{Token}
use Rattle.tla_ast.specs.declared.token.Tok.{Tok}
use Rattle.tla_ast.specs.declared.token.Tok.TheVariants as tok
use Rattle.std_names.specs.declared.operators.Fix.TheVariants.{Infix}
use Rattle.std_names.specs.Operators.{operator, infix_rows}
use Rattle.token_reader.specs.declared.mark.Mark.{Mark}
use Rattle.token_reader.specs.declared.mark.Mark.TheVariants as m
use Rattle.token_reader.specs.Marks.{Text, words, signs, mark_in, mark_of, spelling, same_mark}
use Rattle.layout_parser.specs.Reading.{operator_at}

-- each row with this mark has this text
abbrev is_only : List (Text × Mark) → Mark → Text → Bool
is_only [] k x = true
is_only (r ∷ rs) k x = (if same_mark r.1 k then pointwise nat_eq r.0 x else true) && is_only rs k x

same-text : (a b : Text) → pointwise nat_eq a b ≡ true → a ≡ b
same-text a b e = (bytes_decides a b).0 e

by-row : (r : Text × Mark) (k : Mark) (x text : Text) (more : Mark) → (if same_mark r.1 k then pointwise nat_eq r.0 x else true) ≡ true → same_mark k k ≡ true → (more ≡ k → text ≡ x)
    → (b : Bool) → pointwise nat_eq r.0 text ≡ b → (if b then r.1 else more) ≡ k → text ≡ x
by-row r k x text more only same later true hit is =
    let marked : same_mark r.1 k ≡ true = subst (λ q. same_mark q k ≡ true) (sym is) same in
    let first : pointwise nat_eq r.0 x ≡ true = subst (λ b. (if b then pointwise nat_eq r.0 x else true) ≡ true) marked only in
    sym (same-text r.0 text hit) ∙ same-text r.0 x first
by-row r k x text more only same later false miss is = later is

by-only : (rows : List (Text × Mark)) (k : Mark) (x text : Text) (otherwise : Mark) → is_only rows k x ≡ true → same_mark otherwise k ≡ false → same_mark k k ≡ true → mark_in rows text otherwise ≡ k → text ≡ x
by-only [] k x text otherwise only other same e = absurd (true≢false (sym same ∙ subst (λ o. same_mark o k ≡ false) e other))
by-only (r ∷ rs) k x text otherwise only other same e =
    let parts = and_parts (if same_mark r.1 k then pointwise nat_eq r.0 x else true) (is_only rs k x) only in
    by-row r k x text (mark_in rs text otherwise) parts.0 same (by-only rs k x text otherwise parts.1 other same) (pointwise nat_eq r.0 text) refl e

belongs : (t : Tok) → mark_of t ≡ m.Belongs → spelling t ≡ codes "\\in"
unfolding words signs same_mark
belongs (tok.Word w) e = by-only words m.Belongs (codes "\\in") w m.Name refl refl refl e
belongs (tok.Sign s) e = by-only signs m.Belongs (codes "\\in") s m.Refused refl refl refl e
belongs (tok.Number n) e = absurd (cc)
belongs (tok.Str n) e = absurd (cc)
belongs (tok.Step n l) e = absurd (cc)
belongs tok.Rule e = absurd (cc)
belongs tok.End e = absurd (cc)
belongs tok.Eof e = absurd (cc)

member-row : operator (codes "\\in") Infix ≡ Some (5, 5, false)
unfolding operator infix_rows
member-row = refl

-- the token is the operator of the definition
pub member-fits : (t : Token) → mark_of t.tok ≡ m.Belongs → operator_at t (operator (spelling t.tok) Infix) ≡ Some (record { sign = codes "\\in"; low = 5; high = 5; is_left = false; place = t.place })
member-fits t e =
    let is : spelling t.tok ≡ codes "\\in" = belongs t.tok e in
    ap (operator_at t) (ap (λ x. operator x Infix) is ∙ member-row) ∙ ap (λ x. Some (record { sign = x; low = 5; high = 5; is_left = false; place = t.place })) is
