-- Whether a proof is correct, as a test that computes.
use Rattle.std.specs.Prelude.{Bool, true, false, ◌&&◌, is_some, List, [], ◌∷◌}
use Rattle.std.specs.List.{list_any, list_all}
use Rattle.core_expr.specs.Tree.{Tree, true_, false_, not_, and_, or_, imp_, iff_, eq_, all_, ex_}
use Rattle.core_expr.specs.Put.{inst}
use Rattle.core_expr.specs.Terms.{same, is_scoped}
use Rattle.seq_calculus.specs.Schemas.{instance_of}
use Rattle.seq_calculus.specs.Calculus.{Rule, Sequent, Proof, Proofs, premises}
use Rattle.seq_calculus.specs.Calculus.Rule.{Ax, TrueR, FalseL, Weak, Cut, NotL, NotR, AndL, AndR, OrL, OrR, ImpL, ImpR, IffL, IffR, AllL, AllR, ExL, ExR, Refl, Repl, Schema}
use Rattle.seq_calculus.specs.Calculus.Proof.{step}
use Rattle.seq_calculus.specs.Calculus.Proofs.{no_more, more}

abbrev pub has : List Tree → Tree → Bool
has xs f = list_any (λ x. same x f) xs

abbrev pub has_all : List Tree → List Tree → Bool
has_all xs fs = list_all (has xs) fs

abbrev pub all_closed : List Tree → Bool
all_closed fs = list_all (is_scoped 0) fs

-- the rule's condition
abbrev pub fits : Rule → List Tree → List Tree → Bool
fits (Ax f) g d = has g f && has d f
fits TrueR g d = has d true_
fits FalseL g d = has g false_
fits (Weak g1 d1) g d = has_all g g1 && has_all d d1
fits (Cut f) g d = true
fits (NotL f) g d = has g (not_ f)
fits (NotR f) g d = has d (not_ f)
fits (AndL a b) g d = has g (and_ a b)
fits (AndR a b) g d = has d (and_ a b)
fits (OrL a b) g d = has g (or_ a b)
fits (OrR a b) g d = has d (or_ a b)
fits (ImpL a b) g d = has g (imp_ a b)
fits (ImpR a b) g d = has d (imp_ a b)
fits (IffL a b) g d = has g (iff_ a b)
fits (IffR a b) g d = has d (iff_ a b)
fits (AllL p t) g d = has g (all_ p) && is_scoped 0 t
fits (AllR p) g d = has d (all_ p)
fits (ExL p) g d = has g (ex_ p)
fits (ExR p t) g d = has d (ex_ p) && is_scoped 0 t
fits (Refl t) g d = has d (eq_ t t)
fits (Repl h s t) g d = has g (eq_ s t) && has g (inst h s) && is_scoped 1 h
fits (Schema k z ps) g d = is_some (instance_of k z ps)

abbrev mutual
  -- the proof is one of the sequent with these two sides
  pub correct : Proof → List Tree → List Tree → Bool
  correct (step r ps) g d = all_closed g && all_closed d && fits r g d && are_correct ps (premises r g d)

  pub are_correct : Proofs → List Sequent → Bool
  are_correct no_more [] = true
  are_correct no_more (q ∷ qs) = false
  are_correct (more p ps) [] = false
  are_correct (more p ps) (q ∷ qs) = correct p q.left q.right && are_correct ps qs
