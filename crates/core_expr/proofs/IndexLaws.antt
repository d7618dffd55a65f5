-- Laws of the index from symbols to places.
use Rattle.std.proofs.Common.{◌≡◌, ℕ, zero, suc, ◌+◌, ◌<◌, List, [], ◌∷◌, length, get_or, drop, Bool, true, false, cond, Option, Some, None, refl, ap, sym, ◌∙◌, arith, eqb, eq-eqb, rules, ◌&&◌}
use Rattle.std.specs.Prelude.{slice_get}
use Rattle.std.specs.Bool.{Decides, one_answer}
use Rattle.std.specs.HashMap.{HashMap, get}
use Rattle.std.proofs.Math.Seq.{drop-cons}
use Rattle.std.proofs.lemmas.Option.{slice_get-get_or}
use Rattle.std.proofs.lemmas.Bool.{and_parts, and_from, eqb-true}
use denote.Enum.Bare.{sameb, same_true, true_same}
use Rattle.core_expr.specs.declared.head.Sym.{Sym}
use Rattle.core_expr.specs.contracts.head.SymKind.{the_type}
use Rattle.core_expr.specs.Tree.{Tree}
use Rattle.core_expr.specs.Tree.Tree.{app}
use Rattle.core_expr.specs.Tree.Parts.{end}
use Rattle.core_expr.specs.Terms.{same_sym, sames}
use Rattle.core_expr.specs.Equal.{and-both, sym-same, true-same}
use Rattle.core_expr.specs.Rename.{named}
use Rattle.core_expr.specs.Index.{sym_eq, second, named_at, Indexes}

sym_eq-Decides : (f g : Sym) → Decides (sym_eq f g) (f ≡ g)
sym_eq-Decides f g = (to, λ e. ap (sym_eq f) (sym e) ∙ self f)
  where
    to : sym_eq f g ≡ true → f ≡ g
    to h =
        let p = and_parts (sameb the_type f.kind g.kind) (eqb f.number g.number && eqb f.arity g.arity) h in
        let q = and_parts (eqb f.number g.number) (eqb f.arity g.arity) p.1 in
        let k = same_true the_type (search rules) f.kind g.kind p.0 in
        let n = eqb-true f.number g.number q.0 in
        let a = eqb-true f.arity g.arity q.1 in
        λ i. record { kind = k i; number = n i; arity = a i }

    self : (f : Sym) → sym_eq f f ≡ true
    self f = and_from _ _ (true_same the_type f.kind f.kind refl) (and_from _ _ (eq-eqb f.number f.number refl) (eq-eqb f.arity f.arity refl))

same_sym-Decides : (f g : Sym) → Decides (same_sym f g) (f ≡ g)
same_sym-Decides f g = (sym-same f g, λ e. ap (same_sym f) (sym e) ∙ (and-both (same_sym f f) (sames end end) (true-same (app f end) (app f end) refl)).0)

sym_eq-is : (f g : Sym) → sym_eq f g ≡ same_sym f g
sym_eq-is f g = one_answer (sym_eq f g) (same_sym f g) (sym_eq-Decides f g) (same_sym-Decides f g)

chosen : (by bs : List (Sym × Tree)) (p : Sym × Tree) (f : Sym) (k : ℕ) (o : Option ℕ) (x : Bool) → slice_get by k ≡ Some p → named_at by o ≡ named bs f → named_at by (cond x (Some k) o) ≡ elim x [ true ↦ Some p.1 | false ↦ named bs f ]
chosen by bs p f k o true q h = ap second q
chosen by bs p f k o false q h = h

pub index_step : {H : Type 0} → (by : List (Sym × Tree)) (old new : HashMap Sym ℕ H) (k a b : ℕ) (d : Sym × Tree) → k < length by → a ≡ k + 1 → b ≡ k → Indexes by (drop a by) old → ((q : Sym) → get sym_eq new q ≡ cond (sym_eq (get_or by k d).0 q) (Some k) (get sym_eq old q)) → Indexes by (drop b by) new
index_step by old new k a b d h e g i u = λ f.
    let p : Sym × Tree = get_or by k d in
    let read : drop b by ≡ p ∷ drop a by = ap (λ n. drop n by) g ∙ drop-cons by k d h ∙ (let z : suc k ≡ a = omega arith in ap (λ n. p ∷ drop n by) z) in
    ap (named_at by) (u f)
    ∙ ap (λ x. named_at by (cond x (Some k) (get sym_eq old f))) (sym_eq-is p.0 f)
    ∙ chosen by (drop a by) p f k (get sym_eq old f) (same_sym p.0 f) (slice_get-get_or by k d h) (i f)
    ∙ ap (λ (l : List (Sym × Tree)). named l f) (sym read)

drop_all : (by : List (Sym × Tree)) (i : ℕ) → i ≡ length by → drop i by ≡ []
drop_all [] zero h = refl
drop_all [] (suc i) h = absurd (omega arith)
drop_all (p ∷ by) zero h = absurd (omega arith)
drop_all (p ∷ by) (suc i) h = drop_all by i (omega arith)

pub index_start : {H : Type 0} → (by : List (Sym × Tree)) (new : HashMap Sym ℕ H) (a : ℕ) → a ≡ length by → new.entries ≡ [] → Indexes by (drop a by) new
index_start by new a h e = λ f.
    let o : get sym_eq new f ≡ None = rw e refl in
    ap (named_at by) o ∙ ap (λ (l : List (Sym × Tree)). named l f) (sym (drop_all by a h))

pub index_end : {H : Type 0} → (by : List (Sym × Tree)) (new : HashMap Sym ℕ H) (a : ℕ) → a ≡ 0 → Indexes by (drop a by) new → Indexes by by new
index_end by new a h i = λ f. i f ∙ ap (λ n. named (drop n by) f) h

pub index_found : {H : Type 0} → (by : List (Sym × Tree)) (places : HashMap Sym ℕ H) (f : Sym) (o : Option ℕ) → o ≡ get sym_eq places f → Indexes by by places → named_at by o ≡ named by f
index_found by places f o h i = ap (named_at by) h ∙ i f
