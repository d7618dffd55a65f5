-- A map from symbols takes a derivation to a derivation.
use Rattle.std.specs.Prelude.{◌≡◌, ℕ, Option, Some, List, [], ◌∷◌, map}
use Rattle.std.proofs.Common.{refl, ap, sym, subst, inl, inr}
use Rattle.core_expr.specs.declared.head.Sym.{Sym}
use Rattle.core_expr.specs.Tree.{Tree, true_, false_, not_, and_, or_, imp_, iff_, eq_, all_, ex_, choose_}
use Rattle.core_expr.specs.Put.{inst, sub}
use Rattle.core_expr.proofs.Laws.{sub-inst, IsScoped-sub}
use Rattle.seq_calculus.specs.Schemas.{instance_of}
use Rattle.seq_calculus.specs.Calculus.{Has, HasAll, AllClosed, Rule, Sequent, Fits, schema_premise, premises, Proof, Proofs, Correct, AreCorrect, Der}
use Rattle.seq_calculus.specs.Calculus.Rule.{Ax, TrueR, FalseL, Weak, Cut, NotL, NotR, AndL, AndR, OrL, OrR, ImpL, ImpR, IffL, IffR, AllL, AllR, ExL, ExR, Refl, Repl, Schema}
use Rattle.seq_calculus.specs.Calculus.Proof.{step}
use Rattle.seq_calculus.specs.Calculus.Proofs.{no_more, more}
use Rattle.seq_calculus.proofs.RowLaws.{instance_of-sub}

module _ (s : Sym → Option Tree) where
  Has-sub : (g : List Tree) (f : Tree) → Has g f → Has (map (sub s) g) (sub s f)
  Has-sub [] f h = h
  Has-sub (x ∷ g) f (inl e) = inl (ap (sub s) e)
  Has-sub (x ∷ g) f (inr h) = inr (Has-sub g f h)

  HasAll-sub : (g fs : List Tree) → HasAll g fs → HasAll (map (sub s) g) (map (sub s) fs)
  HasAll-sub g [] h = tt
  HasAll-sub g (f ∷ fs) h = (Has-sub g f h.0, HasAll-sub g fs h.1)

  AllClosed-sub : (g : List Tree) → AllClosed g → AllClosed (map (sub s) g)
  AllClosed-sub [] h = tt
  AllClosed-sub (f ∷ g) h = (IsScoped-sub s 0 f h.0, AllClosed-sub g h.1)

  abbrev sub_rule : Rule → Rule
  sub_rule (Ax f) = Ax (sub s f)
  sub_rule TrueR = TrueR
  sub_rule FalseL = FalseL
  sub_rule (Weak g1 d1) = Weak (map (sub s) g1) (map (sub s) d1)
  sub_rule (Cut f) = Cut (sub s f)
  sub_rule (NotL f) = NotL (sub s f)
  sub_rule (NotR f) = NotR (sub s f)
  sub_rule (AndL a b) = AndL (sub s a) (sub s b)
  sub_rule (AndR a b) = AndR (sub s a) (sub s b)
  sub_rule (OrL a b) = OrL (sub s a) (sub s b)
  sub_rule (OrR a b) = OrR (sub s a) (sub s b)
  sub_rule (ImpL a b) = ImpL (sub s a) (sub s b)
  sub_rule (ImpR a b) = ImpR (sub s a) (sub s b)
  sub_rule (IffL a b) = IffL (sub s a) (sub s b)
  sub_rule (IffR a b) = IffR (sub s a) (sub s b)
  sub_rule (AllL p t) = AllL (sub s p) (sub s t)
  sub_rule (AllR p) = AllR (sub s p)
  sub_rule (ExL p) = ExL (sub s p)
  sub_rule (ExR p t) = ExR (sub s p) (sub s t)
  sub_rule (Refl t) = Refl (sub s t)
  sub_rule (Repl h a t) = Repl (sub s h) (sub s a) (sub s t)
  sub_rule (Schema k z ps) = Schema k z (map (sub s) ps)

  Fits-sub : (r : Rule) (g d : List Tree) → Fits r g d → Fits (sub_rule r) (map (sub s) g) (map (sub s) d)
  Fits-sub (Ax f) g d h = (Has-sub g f h.0, Has-sub d f h.1)
  Fits-sub TrueR g d h = Has-sub d true_ h
  Fits-sub FalseL g d h = Has-sub g false_ h
  Fits-sub (Weak g1 d1) g d h = (HasAll-sub g g1 h.0, HasAll-sub d d1 h.1)
  Fits-sub (Cut f) g d h = tt
  Fits-sub (NotL f) g d h = Has-sub g (not_ f) h
  Fits-sub (NotR f) g d h = Has-sub d (not_ f) h
  Fits-sub (AndL a b) g d h = Has-sub g (and_ a b) h
  Fits-sub (AndR a b) g d h = Has-sub d (and_ a b) h
  Fits-sub (OrL a b) g d h = Has-sub g (or_ a b) h
  Fits-sub (OrR a b) g d h = Has-sub d (or_ a b) h
  Fits-sub (ImpL a b) g d h = Has-sub g (imp_ a b) h
  Fits-sub (ImpR a b) g d h = Has-sub d (imp_ a b) h
  Fits-sub (IffL a b) g d h = Has-sub g (iff_ a b) h
  Fits-sub (IffR a b) g d h = Has-sub d (iff_ a b) h
  Fits-sub (AllL p t) g d h = (Has-sub g (all_ p) h.0, IsScoped-sub s 0 t h.1)
  Fits-sub (AllR p) g d h = Has-sub d (all_ p) h
  Fits-sub (ExL p) g d h = Has-sub g (ex_ p) h
  Fits-sub (ExR p t) g d h = (Has-sub d (ex_ p) h.0, IsScoped-sub s 0 t h.1)
  Fits-sub (Refl t) g d h = Has-sub d (eq_ t t) h
  Fits-sub (Repl p a t) g d h = (Has-sub g (eq_ a t) h.0, rw (← sub-inst s p a) (Has-sub g (inst p a) h.1), IsScoped-sub s 1 p h.2)
  Fits-sub (Schema k z ps) g d h = (sub s h.0, instance_of-sub s k z ps h.0 h.1)

  abbrev sub_sequents : List Sequent → List Sequent
  sub_sequents [] = []
  sub_sequents (q ∷ qs) = record { left = map (sub s) q.left; right = map (sub s) q.right } ∷ sub_sequents qs

  schema-sub : (k z : ℕ) (ps g d : List Tree) (i : Tree) → instance_of k z ps ≡ Some i → schema_premise (instance_of k z (map (sub s) ps)) (map (sub s) g) (map (sub s) d) ≡ sub_sequents (schema_premise (instance_of k z ps) g d)
  schema-sub k z ps g d i e = rw (instance_of-sub s k z ps i e, e)

  premises-sub : (r : Rule) (g d : List Tree) → Fits r g d → premises (sub_rule r) (map (sub s) g) (map (sub s) d) ≡ sub_sequents (premises r g d)
  premises-sub (Ax f) g d h = refl
  premises-sub TrueR g d h = refl
  premises-sub FalseL g d h = refl
  premises-sub (Weak g1 d1) g d h = refl
  premises-sub (AllL p t) g d h = rw (sub-inst s p t)
  premises-sub (AllR p) g d h = rw (sub-inst s p (choose_ (not_ p)))
  premises-sub (ExL p) g d h = rw (sub-inst s p (choose_ p))
  premises-sub (ExR p t) g d h = rw (sub-inst s p t)
  premises-sub (Repl p a t) g d h = rw (sub-inst s p t)
  premises-sub (Schema k z ps) g d h = schema-sub k z ps g d h.0 h.1
  premises-sub _ g d h = refl

  abbrev mutual
    sub_proof : Proof → Proof
    sub_proof (step r ps) = step (sub_rule r) (sub_proofs ps)

    sub_proofs : Proofs → Proofs
    sub_proofs no_more = no_more
    sub_proofs (more p ps) = more (sub_proof p) (sub_proofs ps)

  mutual
    Correct-sub : (p : Proof) (g d : List Tree) → Correct p g d → Correct (sub_proof p) (map (sub s) g) (map (sub s) d)
    Correct-sub (step r ps) g d h =
        (AllClosed-sub g h.0, AllClosed-sub d h.1, Fits-sub r g d h.2, subst (AreCorrect (sub_proofs ps)) (sym (premises-sub r g d h.2)) (AreCorrect-sub ps (premises r g d) h.3))

    AreCorrect-sub : (ps : Proofs) (qs : List Sequent) → AreCorrect ps qs → AreCorrect (sub_proofs ps) (sub_sequents qs)
    AreCorrect-sub no_more [] h = tt
    AreCorrect-sub no_more (q ∷ qs) h = h
    AreCorrect-sub (more p ps) [] h = h
    AreCorrect-sub (more p ps) (q ∷ qs) h = (Correct-sub p q.left q.right h.0, AreCorrect-sub ps qs h.1)

  -- the lemma on symbols
  pub Der-sub : (g d : List Tree) → Der g d → Der (map (sub s) g) (map (sub s) d)
  Der-sub g d h = (sub_proof h.0, Correct-sub h.0 g d h.1)

-- more formulas, in any order
pub Der-weak : (g d g1 d1 : List Tree) → AllClosed g → AllClosed d → HasAll g g1 → HasAll d d1 → Der g1 d1 → Der g d
Der-weak g d g1 d1 cg cd hg hd h = (step (Weak g1 d1) (more h.0 no_more), (cg, cd, (hg, hd), (h.1, tt)))

-- the formulas of a derivable sequent are closed
pub Der-closed : (g d : List Tree) → Der g d → AllClosed g × AllClosed d
Der-closed g d (p, h) = of p h
  where
    of : (p : Proof) → Correct p g d → AllClosed g × AllClosed d
    of (step r ps) h = (h.0, h.1)
