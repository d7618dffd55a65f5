-- Equations of schemas by numbers.
use Rattle.std.specs.Prelude.{◌≡◌, ℕ, zero, suc, ◌<◌, ◌≤◌, Option, Some, None, List, [], ◌∷◌, length}
use Rattle.std.specs.Prelude.{IfOk}
use Rattle.std.proofs.Common.{get_or, refl, ap, sym, ◌∙◌, subst, arith, Result, Ok, Err}
use Rattle.core_expr.specs.Tree.{Tree, true_, apply_, tuple_, num_}
use Rattle.core_expr.specs.Nodes.{picked}
use Rattle.core_expr.specs.Heads.{parts_of}
use Rattle.seq_calculus.specs.Schemas.{nth}
use Rattle.search_definition.specs.Terms.{list_of}
use Rattle.search_definition.specs.Plain.{Rewrite, rewrite_of, nth_rewrite}
use Rattle.seq_calculus.specs.Calculus.{Proof}
use Rattle.proof_writer.specs.Shapes.{with_schema}
use Rattle.proof_trees.specs.Abstracted.{put_for}
use Rattle.proof_trees.specs.By.{rewritten_by}
use Rattle.equation_proofs.specs.declared.replacing.Rewriting.{Rewriting}
use Rattle.equation_proofs.specs.Rewritings.{IsRewriting, IsOther, equation_of}

pub over_some : (ts : List Tree) (r : Rewriting) (m : Option Rewrite) (s t f : Tree) (p : Proof) → IsRewriting ts (Some r) m → IsOther m s t → rewritten_by m f p ≡ with_schema r.schema r.z (picked ts r.params) (put_for s t f p)
over_some ts r None s t f p h e = absurd h
over_some ts r (Some m) s t f p h e = λ i. with_schema (sym h.0 i) (sym h.1 i) (sym h.2 i) (put_for (e.0 i) (e.1 i) f p)

pub over_none : (ts : List Tree) (m : Option Rewrite) (f : Tree) (p : Proof) → IsRewriting ts None m → rewritten_by m f p ≡ p
over_none ts None f p h = refl
over_none ts (Some m) f p h = absurd h

-- the entry k of a tuple, counted from 1
list-parts : (us : List Tree) → list_of (parts_of us) ≡ us
list-parts [] = refl
list-parts (u ∷ us) = ap (λ l. u ∷ l) (list-parts us)

nth-some : (ts : List Tree) (ps : List ℕ) (i : ℕ) → i < length ps → nth (picked ts ps) i ≡ Some (get_or ts (get_or ps i 0) true_)
nth-some ts [] i h = absurd (omega arith)
nth-some ts (p ∷ ps) zero h = refl
nth-some ts (p ∷ ps) (suc i) h = nth-some ts ps i (omega arith)

nth-none : (ts : List Tree) (ps : List ℕ) (i : ℕ) → length ps ≤ i → nth (picked ts ps) i ≡ None
nth-none ts [] i h = refl
nth-none ts (p ∷ ps) zero h = absurd (omega arith)
nth-none ts (p ∷ ps) (suc i) h = nth-none ts ps i (omega arith)

-- the equation by what stands there
by_entry : (ts us : List Tree) (ps : List ℕ) (i : ℕ) (o : Option Tree) → us ≡ picked ts ps → nth us i ≡ o → rewrite_of (apply_ (tuple_ (parts_of us)) (num_ 0 (suc i))) ≡ nth_rewrite (parts_of us) (suc i) o
by_entry ts us ps i o e f = ap (λ vs. nth_rewrite (parts_of us) (suc i) (nth vs i)) (list-parts us) ∙ ap (nth_rewrite (parts_of us) (suc i)) f

entry_some : (ts : List Tree) (x : Tree) (us : List Tree) (ps : List ℕ) (k : ℕ) → x ≡ apply_ (tuple_ (parts_of us)) (num_ 0 k) → us ≡ picked ts ps → (k ≡ 0 → ⊥) → k ≤ length ps → IsRewriting ts (equation_of 21 k ps) (rewrite_of x)
entry_some ts x us ps zero e f n l = absurd (n refl)
entry_some ts x us ps (suc i) e f n l =
    let t : Tree = get_or ts (get_or ps i 0) true_ in
    let found : nth us i ≡ Some t = ap (λ vs. nth vs i) f ∙ nth-some ts ps i (omega arith) in
    subst (IsRewriting ts (equation_of 21 (suc i) ps)) (sym (ap rewrite_of e ∙ by_entry ts us ps i (Some t) f found)) (refl, refl, sym f ∙ sym (list-parts us))

pub entry_zero : (ts : List Tree) (x : Tree) (us : List Tree) (k : ℕ) → x ≡ apply_ (tuple_ (parts_of us)) (num_ 0 k) → k ≡ 0 → IsRewriting ts None (rewrite_of x)
entry_zero ts x us k e z = subst (IsRewriting ts None) (sym (ap rewrite_of (e ∙ ap (λ n. apply_ (tuple_ (parts_of us)) (num_ 0 n)) z))) tt

pub entry_past : (ts : List Tree) (x : Tree) (us : List Tree) (ps : List ℕ) (k : ℕ) → x ≡ apply_ (tuple_ (parts_of us)) (num_ 0 k) → us ≡ picked ts ps → length ps < k → IsRewriting ts None (rewrite_of x)
entry_past ts x us ps zero e f l = absurd (omega arith)
entry_past ts x us ps (suc i) e f l =
    let found : nth us i ≡ None = ap (λ vs. nth vs i) f ∙ nth-none ts ps i (omega arith) in
    subst (IsRewriting ts None) (sym (ap rewrite_of e ∙ by_entry ts us ps i None f found)) tt

pub entry_ok : {E : Type 0} (r : Result (Option Rewriting) E) (ts : List Tree) (x : Tree) (us : List Tree) (ps : List ℕ) (k : ℕ) → x ≡ apply_ (tuple_ (parts_of us)) (num_ 0 k) → us ≡ picked ts ps → (k ≡ 0 → ⊥) → k ≤ length ps → IfOk r (λ o. o ≡ equation_of 21 k ps) → IfOk r (λ o. IsRewriting ts o (rewrite_of x))
entry_ok (Err z) ts x us ps k e f n l h = h
entry_ok (Ok o) ts x us ps k e f n l h = subst (λ y. IsRewriting ts y (rewrite_of x)) (sym h) (entry_some ts x us ps k e f n l)
