-- Symbols as keys of a set in order.
use Rattle.std.specs.Prelude.{◌≡◌, true, ◌||◌, ◌&&◌, cond, List, [], ◌∷◌, ◌++◌}
use Rattle.std.specs.List.{list_any}
use Rattle.std.specs.Bool.{Decides, one_answer}
use Rattle.std.proofs.Common.{refl, ap, sym, ◌∙◌, eqb, eq-eqb, rules}
use Rattle.std.proofs.lemmas.Bool.{and_parts, and_from, eqb-true}
use Rattle.indexmap.specs.IndexSet.{insert_key}
use denote.Enum.Bare.{sameb, same_true, true_same}
use Rattle.core_expr.specs.declared.head.Sym.{Sym}
use Rattle.core_expr.specs.contracts.head.SymKind.{the_type}
use Rattle.core_expr.specs.Terms.{same_sym}
use Rattle.core_expr.specs.Index.{sym_eq}
use Rattle.core_expr.specs.Equal.{sym-same, sym-refl}
use Rattle.proof_contexts.specs.Canonical.{is_listed, with_symbol}

eq-Decides : (f g : Sym) → Decides (sym_eq f g) (f ≡ g)
eq-Decides f g = (to, λ e. ap (sym_eq f) (sym e) ∙ self f)
  where
    to : sym_eq f g ≡ true → f ≡ g
    to h =
        let p = and_parts (sameb the_type f.kind g.kind) (eqb f.number g.number && eqb f.arity g.arity) h in
        let q = and_parts (eqb f.number g.number) (eqb f.arity g.arity) p.1 in
        let k = same_true the_type (search rules) f.kind g.kind p.0 in
        let n = eqb-true f.number g.number q.0 in
        let a = eqb-true f.arity g.arity q.1 in
        λ i. record { kind = k i; number = n i; arity = a i }

    self : (f : Sym) → sym_eq f f ≡ true
    self f = and_from _ _ (true_same the_type f.kind f.kind refl) (and_from _ _ (eq-eqb f.number f.number refl) (eq-eqb f.arity f.arity refl))

-- the test of keys is that of symbols
eq-same : (f g : Sym) → sym_eq f g ≡ same_sym g f
eq-same f g = one_answer (sym_eq f g) (same_sym g f) (eq-Decides f g) ((λ h. sym (sym-same g f h)), λ e. ap (λ x. same_sym g x) e ∙ sym-refl g)

any-listed : (xs : List Sym) (f : Sym) → list_any (sym_eq f) xs ≡ is_listed xs f
any-listed [] f = refl
any-listed (g ∷ gs) f = λ i. eq-same f g i || any-listed gs f i

-- inserting a key is noting a symbol
pub key_met : (xs : List Sym) (f : Sym) → insert_key sym_eq xs f ≡ with_symbol f xs
key_met xs f = ap (λ b. cond b xs (xs ++ f ∷ [])) (any-listed xs f)
