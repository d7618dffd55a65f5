-- The test of proofs says what it is to be correct in the calculus.
use Rattle.std.specs.Prelude.{◌≡◌, ℕ, Bool, true, false, cond, ◌&&◌, is_some, Option, Some, None, List, [], ◌∷◌}
use Rattle.std.specs.Bool.{Decides}
use Rattle.std.proofs.Common.{refl, ap, sym, ◌∙◌}
use Rattle.std.proofs.lemmas.Bool.Decides.{Decides-and, Decides-or, Decides-like}
use Rattle.core_expr.specs.declared.canon.Canon.{Canon}
use Rattle.core_expr.specs.Tree.{Tree, true_, false_, not_, and_, or_, imp_, iff_, eq_, all_, ex_}
use Rattle.core_expr.specs.Put.{inst, IsScoped}
use Rattle.core_expr.specs.Terms.{same, is_scoped}
use Rattle.core_expr.specs.Equal.{scoped-true, true-scoped}
use Rattle.core_expr.specs.Keys.{same-Decides}
use Rattle.seq_calculus.specs.Schemas.{instance_of}
use Rattle.seq_calculus.specs.Calculus.{Rule, Sequent, Proof, Proofs, premises, Has, HasAll, AllClosed, Fits, Correct, AreCorrect}
use Rattle.seq_calculus.specs.Calculus.Rule.{Ax, TrueR, FalseL, Weak, Cut, NotL, NotR, AndL, AndR, OrL, OrR, ImpL, ImpR, IffL, IffR, AllL, AllR, ExL, ExR, Refl, Repl, Schema}
use Rattle.seq_calculus.specs.Calculus.Proof.{step}
use Rattle.seq_calculus.specs.Calculus.Proofs.{no_more, more}
use Rattle.seq_calculus.specs.Steps.{proof_of}
use Rattle.seq_calculus.specs.Lists.{Lists}
use Rattle.cache_hit.specs.Correctness.{has, has_all, all_closed, fits, correct, are_correct}
use Rattle.cache_hit.specs.Hits.{is_proof_of, hit}
use Rattle.cache_hit.specs.Laws.{CorrectIsTested, HitIsCorrect}

always : Decides true (Unit {0})
always = (λ _. tt, λ _. refl)

never : Decides false ⊥
never = (λ e. absurd (cc), λ h. absurd h)

three : {P Q R : Type 0} (x y z : Bool) → Decides x P → Decides y Q → Decides z R → Decides (x && y && z) (P × Q × R)
three x y z p q r = Decides-like (x && y && z) (λ h. (h.0.0, h.0.1, h.1)) (λ h. ((h.0, h.1), h.2)) (Decides-and (x && y) z (Decides-and x y p q) r)

four : {P Q R S : Type 0} (w x y z : Bool) → Decides w P → Decides x Q → Decides y R → Decides z S → Decides (w && x && y && z) (P × Q × R × S)
four w x y z p q r s = Decides-like (w && x && y && z) (λ h. (h.0.0, h.0.1, h.0.2, h.1)) (λ h. ((h.0, h.1, h.2), h.3)) (Decides-and (w && x && y) z (three w x y p q r) s)

scoped : (n : ℕ) (e : Tree) → Decides (is_scoped n e) (IsScoped n e)
scoped n e = (scoped-true n e, true-scoped n e)

all-closed : (fs : List Tree) → Decides (all_closed fs) (AllClosed fs)
all-closed [] = always
all-closed (f ∷ fs) = Decides-and (is_scoped 0 f) (all_closed fs) (scoped 0 f) (all-closed fs)

held : (xs : List Tree) (f : Tree) → Decides (has xs f) (Has xs f)
held [] f = never
held (x ∷ xs) f = Decides-or (same x f) (has xs f) (same-Decides x f) (held xs f)

all-held : (xs fs : List Tree) → Decides (has_all xs fs) (HasAll xs fs)
all-held xs [] = always
all-held xs (f ∷ fs) = Decides-and (has xs f) (has_all xs fs) (held xs f) (all-held xs fs)

some : (o : Option Tree) → Decides (is_some o) ((i : Tree) × (o ≡ Some i))
some None = (λ e. absurd (cc), λ h. let e = h.1 in absurd (cc))
some (Some i) = (λ _. (i, refl), λ _. refl)

fit : (r : Rule) (g d : List Tree) → Decides (fits r g d) (Fits r g d)
fit (Ax f) g d = Decides-and (has g f) (has d f) (held g f) (held d f)
fit TrueR g d = held d true_
fit FalseL g d = held g false_
fit (Weak g1 d1) g d = Decides-and (has_all g g1) (has_all d d1) (all-held g g1) (all-held d d1)
fit (Cut f) g d = always
fit (NotL f) g d = held g (not_ f)
fit (NotR f) g d = held d (not_ f)
fit (AndL a b) g d = held g (and_ a b)
fit (AndR a b) g d = held d (and_ a b)
fit (OrL a b) g d = held g (or_ a b)
fit (OrR a b) g d = held d (or_ a b)
fit (ImpL a b) g d = held g (imp_ a b)
fit (ImpR a b) g d = held d (imp_ a b)
fit (IffL a b) g d = held g (iff_ a b)
fit (IffR a b) g d = held d (iff_ a b)
fit (AllL p t) g d = Decides-and (has g (all_ p)) (is_scoped 0 t) (held g (all_ p)) (scoped 0 t)
fit (AllR p) g d = held d (all_ p)
fit (ExL p) g d = held g (ex_ p)
fit (ExR p t) g d = Decides-and (has d (ex_ p)) (is_scoped 0 t) (held d (ex_ p)) (scoped 0 t)
fit (Refl t) g d = held d (eq_ t t)
fit (Repl h s t) g d = three (has g (eq_ s t)) (has g (inst h s)) (is_scoped 1 h) (held g (eq_ s t)) (held g (inst h s)) (scoped 1 h)
fit (Schema k z ps) g d = some (instance_of k z ps)

mutual
  tested : (p : Proof) (g d : List Tree) → Decides (correct p g d) (Correct p g d)
  tested (step r ps) g d =
      four (all_closed g) (all_closed d) (fits r g d) (are_correct ps (premises r g d)) (all-closed g) (all-closed d) (fit r g d) (all-tested ps (premises r g d))

  all-tested : (ps : Proofs) (qs : List Sequent) → Decides (are_correct ps qs) (AreCorrect ps qs)
  all-tested no_more [] = always
  all-tested no_more (q ∷ qs) = never
  all-tested (more p ps) [] = never
  all-tested (more p ps) (q ∷ qs) = Decides-and (correct p q.left q.right) (are_correct ps qs) (tested p q.left q.right) (all-tested ps qs)

pub correct_is_tested : CorrectIsTested
correct_is_tested p g d = tested p g d

found : (c : Canon) (ps : List Lists) (p : Lists) → hit c ps ≡ Some p → is_proof_of c p ≡ true
found c [] p e = absurd (cc)
found c (q ∷ qs) p e = by (is_proof_of c q) refl e (found c qs p)
  where
    by : (b : Bool) → is_proof_of c q ≡ b → cond b (Some q) (hit c qs) ≡ Some p → (hit c qs ≡ Some p → is_proof_of c p ≡ true) → is_proof_of c p ≡ true
    by true is e rest = let same : q ≡ p = cc in ap (is_proof_of c) (sym same) ∙ is
    by false is e rest = rest e

pub hit_is_correct : HitIsCorrect
hit_is_correct c ps p e = (tested (proof_of p) c.facts (c.goal ∷ [])).0 (found c ps p e)
