-- Closed terms and the innermost variable under one more binder, and put in.
use Rattle.std.proofs.Common.{◌≡◌, ℕ, suc, ◌+◌, ◌-◌, ◌<◌, true, false, cond, nat_lt, Result, List, length, refl, ap, sym, ◌∙◌, arith, subst, inl, inr}
use Rattle.std.specs.Prelude.{IfOk}
use Rattle.std.proofs.lemmas.Bool.Decides.{nat_tests}
use Rattle.std.proofs.lemmas.Bool.{cases_lt}
use Rattle.core_expr.specs.Tree.{Tree, Parts}
use Rattle.core_expr.specs.Tree.Tree.{bound, app, node, bind}
use Rattle.core_expr.specs.Tree.Parts.{end, part}
use Rattle.core_expr.specs.Put.{shift, argument, put, puts, inst, IsScoped, AreScoped}
use Rattle.core_expr.proofs.Laws.{shift_closed}
use Rattle.term_bank.specs.Banks.{Extends, HasTree, tree_at}
use Rattle.term_shapes.proofs.Extending.{tree-extend}
use Rattle.formula_rules.specs.Answers.{IsSubject}

pub closed_shift : (a : Tree) → IsScoped 0 a → shift 0 1 a ≡ a
closed_shift a h = shift_closed 0 0 1 a (omega arith) h

-- the variable at its own depth
variable : (d i : ℕ) → i < suc d → cond (nat_lt i d) (bound i) (shift 0 d (argument (part (bound 0) end) (i - d))) ≡ bound i
variable d i l = elim (cases_lt i d) [
  | inl h ↦ let e : nat_lt i d ≡ true = grind (arith, nat_tests) in ap (λ b. cond b (bound i) (shift 0 d (argument (part (bound 0) end) (i - d)))) e
  | inr h ↦
      let e : nat_lt i d ≡ false = grind (arith, nat_tests) in
      let z : i - d ≡ 0 = omega arith in
      let s : 0 + d ≡ i = omega arith in
      ap (λ b. cond b (bound i) (shift 0 d (argument (part (bound 0) end) (i - d)))) e ∙ ap (λ k. shift 0 d (argument (part (bound 0) end) k)) z ∙ ap bound s
]

-- the variable put in for itself
mutual
  put_variable : (d : ℕ) (e : Tree) → IsScoped (suc d) e → put d (part (bound 0) end) e ≡ e
  put_variable d (bound i) h = variable d i h
  put_variable d (app f ps) h = ap (app f) (puts_variable d ps h)
  put_variable d (node f ns ps) h = ap (node f ns) (puts_variable d ps h)
  put_variable d (bind b ps e) h = λ i. bind b (puts_variable d ps h.0 i) (put_variable (suc d) e h.1 i)

  puts_variable : (d : ℕ) (ps : Parts) → AreScoped (suc d) ps → puts d (part (bound 0) end) ps ≡ ps
  puts_variable d end h = refl
  puts_variable d (part e ps) h = λ i. part (put_variable d e h.0 i) (puts_variable d ps h.1 i)

-- a subject that is not closed is the variable
open_subject : (t : Tree) → IsSubject t → (IsScoped 0 t → ⊥) → t ≡ bound 0
open_subject t (inl h) k = absurd (k h)
open_subject t (inr e) k = e

pub same_inst : (p t : Tree) → IsScoped 1 p → IsSubject t → (IsScoped 0 t → ⊥) → p ≡ inst p t
same_inst p t h s k = sym (put_variable 0 p h) ∙ ap (inst p) (sym (open_subject t s k))

pub open_shift : (t : Tree) → IsSubject t → (IsScoped 0 t → ⊥) → bound 1 ≡ shift 0 1 t
open_shift t s k = ap (shift 0 1) (sym (open_subject t s k))

-- a closed tree in a longer bank, under one more binder
pub kept_up : (ts ts' : List Tree) (i : ℕ) → Extends ts ts' → i < length ts → IsScoped 0 (tree_at ts i) → tree_at ts' i ≡ shift 0 1 (tree_at ts i)
kept_up ts ts' i x l h = tree-extend ts ts' i x l ∙ sym (closed_shift (tree_at ts i) h)

pub ok_is : {E : Type 0} (r : Result ℕ E) (ts : List Tree) (t t' : Tree) → t ≡ t' → IfOk r (λ k. HasTree ts k t) → IfOk r (λ k. HasTree ts k t')
ok_is r ts t t' e h = subst (λ u. IfOk r (λ k. HasTree ts k u)) e h
