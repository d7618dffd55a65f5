-- What has been read in the grammar of modules, step by step.
use Rattle.std.proofs.Common.{◌≡◌, ℕ, zero, suc, Bool, true, false, nat_eq, List, [], ◌∷◌, ◌++◌, length, Ok, refl, sym, ap, subst, ◌∙◌, append_assoc}
use Rattle.std.specs.List.{list_any}
use Rattle.std.specs.Cmp.Lexicographic.{pointwise}
use Rattle.std.proofs.lemmas.Bool.{and_parts, or_parts, cond_both, true≢false, false≢true}
use Rattle.proof_parser.specs.Names.{Tok, is_last, Mark, Text}
use Rattle.tla_ast.specs.declared.token.Tok.TheVariants as tok
use Rattle.token_reader.specs.declared.mark.Mark.TheVariants as m
use Rattle.token_reader.specs.Marks.{mark_of, mark_in, words, signs, is_final}
use Rattle.token_reader.specs.Input.{Tokens, Outcome, Reader, first, next, here, mark, sees, eat, after}
use Rattle.token_reader.specs.Lists.{gathered, gathered_from, put_last, separated}
use Rattle.token_reader.proofs.Steps.{got, refused, same-end, by-reader, after-no, after-yes, not-empty, not-final, marks-same}
use Rattle.layout_parser.specs.Spelling as spell
use Rattle.layout_parser.proofs.Steps.{Stands}
use Rattle.proof_parser.specs.Modules.{outside, level_of, label_of}
use Rattle.proof_parser.specs.Spelling.{Symbol, Symbols, Fits, sign, sign_at, step_token, at, phrase, optional, listed, Made, Spelled, none, token, of_place, of_phrase, of_parts}
use Rattle.proof_parser.proofs.Phrases.{Spelt}

-- ---- tokens

-- a test that fails at each mark of a table fails at what is found in it
not-in : (test : Mark → Bool) (rows : List (Text × Mark)) (text : Text) (otherwise : Mark) → list_any (λ r. test r.1) rows ≡ false → test otherwise ≡ false → test (mark_in rows text otherwise) ≡ false
not-in test [] text otherwise missed last = last
not-in test (r ∷ rs) text otherwise missed last = let p = or_parts (test r.1) _ missed in
    cond_both (pointwise nat_eq r.0 text) r.1 (mark_in rs text otherwise) (λ k. test k ≡ false) (λ _. p.0) (λ _. not-in test rs text otherwise p.1 last)

abbrev is_step : Mark → Bool
is_step m.Step = true
is_step _ = false

abbrev is_end : Mark → Bool
is_end m.End = true
is_end _ = false

pub step-token : (t : Tok) → mark_of t ≡ m.Step → t ≡ tok.Step (level_of t) (label_of t)
unfolding words signs
step-token (tok.Step level label) e = refl
step-token (tok.Word w) e = absurd (true≢false (sym (ap is_step e) ∙ not-in is_step words w m.Name refl refl))
step-token (tok.Sign s) e = absurd (true≢false (sym (ap is_step e) ∙ not-in is_step signs s m.Refused refl refl))
step-token _ e = absurd (false≢true (ap is_step e))

pub end-token : (t : Tok) → mark_of t ≡ m.End → t ≡ tok.End
unfolding words signs
end-token tok.End e = refl
end-token (tok.Word w) e = absurd (true≢false (sym (ap is_end e) ∙ not-in is_end words w m.Name refl refl))
end-token (tok.Sign s) e = absurd (true≢false (sym (ap is_end e) ∙ not-in is_end signs s m.Refused refl refl))
end-token _ e = absurd (false≢true (ap is_end e))

-- the mark of a token that is seen
pub seen : (k : Mark) (ts : Tokens) → sees outside k ts ≡ true → mark ts ≡ k
unfolding sees
seen k ts e = marks-same (mark ts) k (and_parts _ _ e).1

-- ---- reads

-- the tokens up to `rest` are a spelling of the symbols
pub record Read (ts rest : Tokens) (ys : Symbols) : Type 0 where
  pub used : Tokens
  pub is : ts ≡ used ++ rest
  pub spelled : Spelled ys used rest

pub nothing : {ts : Tokens} → Read ts ts []
nothing = record { used = []; is = refl; spelled = none }

pub up-from : {ts mid rest : Tokens} {ys : Symbols} → ts ≡ mid → Read mid rest ys → Read ts rest ys
up-from {rest = rest} {ys = ys} e r = subst (λ l. Read l rest ys) (sym e) r

pub on-token : {ts rest : Tokens} {y : Symbol} {ys : Symbols} → is_last (first ts).tok ≡ false → Fits y (first ts) → Read (next ts) rest ys → Read ts rest (y ∷ ys)
on-token {ts = ts} opens fits r = record { used = first ts ∷ r.used; is = not-empty ts opens ∙ ap (λ l. first ts ∷ l) r.is; spelled = token (first ts) opens fits r.spelled }

pub on-sign : (k : Mark) {ts rest : Tokens} {ys : Symbols} → is_final k ≡ false → mark ts ≡ k → Read (next ts) rest ys → Read ts rest (sign k ∷ ys)
unfolding mark
on-sign k {ts = ts} kept is r = on-token (not-final ts k kept is) is r

pub on-sign-at : (k : Mark) {ts rest : Tokens} {ys : Symbols} → is_final k ≡ false → mark ts ≡ k → Read (next ts) rest ys → Read ts rest (sign_at k (here ts) ∷ ys)
unfolding mark
on-sign-at k {ts = ts} kept is r = on-token (not-final ts k kept is) (is, refl) r

pub on-stands : {k : Mark} {ts rest : Tokens} {ys : Symbols} → Stands 0 k ts → Read (next ts) rest ys → Read ts rest (sign k ∷ ys)
on-stands h r = on-token h.may.1 h.marked r

pub on-step : {level : ℕ} {ts rest : Tokens} {ys : Symbols} → mark ts ≡ m.Step → level_of (first ts).tok ≡ level → Read (next ts) rest ys → Read ts rest (step_token level (label_of (first ts).tok) (here ts) ∷ ys)
unfolding mark
on-step {ts = ts} is deep r = on-token (not-final ts m.Step refl is) (step-token (first ts).tok is ∙ ap (λ l. tok.Step l (label_of (first ts).tok)) deep, refl) r

pub on-eaten : (k : Mark) {ts rest : Tokens} {ys : Symbols} → is_final k ≡ false → sees outside k ts ≡ true → Read (after outside k ts) rest ys → Read ts rest (sign k ∷ ys)
on-eaten k {ts = ts} {rest = rest} {ys = ys} kept is r = on-sign k kept (seen k ts is) (subst (λ l. Read l rest ys) (after-yes outside k ts is) r)

pub on-optional : (k : Mark) {ts rest : Tokens} {ys : Symbols} → is_final k ≡ false → Read (after outside k ts) rest ys → Read ts rest (optional k (sees outside k ts) ys)
on-optional k {ts = ts} {rest = rest} {ys = ys} kept r = go (sees outside k ts) refl
  where
    go : (b : Bool) → sees outside k ts ≡ b → Read ts rest (optional k b ys)
    go true e = on-eaten k kept e r
    go false e = up-from (sym (after-no outside k ts e)) r

pub on-place : {ts rest : Tokens} {ys : Symbols} → Read ts rest ys → Read ts rest (at (here ts) ∷ ys)
on-place r = record { used = r.used; is = r.is; spelled = of_place (ap (λ l. here l) (sym r.is)) r.spelled }

pub on-phrase : {ts mid rest : Tokens} {zs : spell.Symbols} {ys : Symbols} → Spelt ts mid zs → Read mid rest ys → Read ts rest (phrase zs ∷ ys)
on-phrase {rest = rest} {zs = zs} p r = record {
  used = p.used ++ r.used;
  is = p.is ∙ ap (λ l. p.used ++ l) r.is ∙ sym (append_assoc p.used r.used rest);
  spelled = of_phrase (subst (λ l. spell.Spelled 0 false zs p.used l) r.is p.spelled) r.spelled;
}

-- the tokens up to `rest` are a spelling of what the symbol is made of
pub record Derives (y : Symbol) (ts rest : Tokens) : Type 0 where
  pub parts : Symbols
  pub made : Made y parts
  pub read : Read ts rest parts

pub on-made : {ts mid rest : Tokens} {y : Symbol} {ys : Symbols} → Derives y ts mid → Read mid rest ys → Read ts rest (y ∷ ys)
on-made {rest = rest} p r = record {
  used = p.read.used ++ r.used;
  is = p.read.is ∙ ap (λ l. p.read.used ++ l) r.is ∙ sym (append_assoc p.read.used r.used rest);
  spelled = of_parts p.made (subst (λ l. Spelled p.parts p.read.used l) r.is p.read.spelled) r.spelled;
}

-- what holds of an outcome holds of what it is
pub as-read : {A : Type 0} (P : A → Tokens → Type 0) {a b : A} {mid rest : Tokens} → (let o : Outcome A = Ok (a, mid) in o) ≡ Ok (b, rest) → P a mid → P b rest
as-read P {a} {b} {mid} {rest} e h = let z = same-end a b mid rest e in subst (λ us. P b us) z.1 (subst (λ x. P x mid) z.0 h)

-- what was read is what an outcome gives
pub derived : {A : Type 0} (y : A → Symbol) {a b : A} {ts mid rest : Tokens} {parts : Symbols} → (let o : Outcome A = Ok (a, mid) in o) ≡ Ok (b, rest) → Made (y a) parts → Read ts mid parts → Derives (y b) ts rest
derived y {ts = ts} e made r = as-read (λ c us. Derives (y c) ts us) e (record { parts = _; made = made; read = r })

-- the same, where that is another one's equal
pub derived-as : {A : Type 0} (y : A → Symbol) {a b c : A} {ts mid rest : Tokens} {parts : Symbols} → (let o : Outcome A = Ok (a, mid) in o) ≡ Ok (b, rest) → a ≡ c → Made (y c) parts → Read ts mid parts → Derives (y b) ts rest
derived-as y {parts = parts} e same made r = derived y e (subst (λ x. Made (y x) parts) (sym same) made) r

-- ---- lists

-- one or more with commas between have been read, behind those found
pub record Listed {A : Type 0} (y : A → Symbol) (found xs : List A) (ts mid : Tokens) : Type 0 where
  pub head : A
  pub tail : List A
  pub are : xs ≡ found ++ head ∷ tail
  pub read : (rest : Tokens) (ys : Symbols) → Read mid rest ys → Read ts rest (listed y head tail ys)

pub list-read : {A : Type 0} (y : A → Symbol) (item : Reader A) → ((ts mid : Tokens) (a : A) → item ts ≡ Ok (a, mid) → Derives (y a) ts mid)
    → (ts : Tokens) (xs : List A) (mid : Tokens) → separated outside m.Comma item [] ts ≡ Ok (xs, mid) → Listed y [] xs ts mid
unfolding gathered gathered_from
list-read {A} y item reads ts xs mid e = turns (length ts) [] ts e
  where
    turns : (n : ℕ) (found : List A) (ts : Tokens) → gathered_from n (eat outside m.Comma) item put_last found ts ≡ Ok (xs, mid) → Listed y found xs ts mid
    turns zero found ts e = refused e
    turns (suc n) found ts e = got {o = item ts} e (λ a t1 e1 f1. by-reader {b = sees outside m.Comma t1} (gathered_from n (eat outside m.Comma) item put_last (found ++ a ∷ [])) _ f1
        (λ yes f2. let h = turns n (found ++ a ∷ []) (after outside m.Comma t1) f2 in record {
          head = a;
          tail = h.head ∷ h.tail;
          are = h.are ∙ append_assoc found (a ∷ []) (h.head ∷ h.tail);
          read = λ rest ys r. on-made (reads ts t1 a e1) (on-eaten m.Comma refl yes (h.read rest ys r));
        })
        (λ no f2. as-read (λ xs us. Listed y found xs ts us) f2
        (record { head = a; tail = []; are = refl; read = λ rest ys r. on-made (reads ts t1 a e1) (up-from (sym (after-no outside m.Comma t1 no)) r) })))
