-- The calculus.
use Rattle.std.specs.Prelude.{◌≡◌, ℕ, Option, Some, None, List, [], ◌∷◌, ◌⊎◌}
use Rattle.core_expr.specs.Tree.{Tree, true_, false_, not_, and_, or_, imp_, iff_, eq_, all_, ex_, choose_}
use Rattle.core_expr.specs.Put.{inst, IsScoped}
use Rattle.seq_calculus.specs.Schemas.{instance_of}

abbrev pub Has : List Tree → Tree → Type 0
Has [] f = ⊥
Has (x ∷ xs) f = (x ≡ f) ⊎ Has xs f

abbrev pub HasAll : List Tree → List Tree → Type 0
HasAll xs [] = Unit {0}
HasAll xs (f ∷ fs) = Has xs f × HasAll xs fs

abbrev pub IsClosed : Tree → Type 0
IsClosed e = IsScoped 0 e

abbrev pub AllClosed : List Tree → Type 0
AllClosed [] = Unit {0}
AllClosed (f ∷ fs) = IsClosed f × AllClosed fs

pub data Rule : Type 0 where
  Ax : Tree → Rule
  TrueR : Rule
  FalseL : Rule
  Weak : List Tree → List Tree → Rule
  Cut : Tree → Rule
  NotL NotR : Tree → Rule
  AndL AndR OrL OrR ImpL ImpR IffL IffR : Tree → Tree → Rule
  AllL : Tree → Tree → Rule
  AllR ExL : Tree → Rule
  ExR : Tree → Tree → Rule
  Refl : Tree → Rule
  Repl : Tree → Tree → Tree → Rule
  Schema : ℕ → ℕ → List Tree → Rule

pub record Sequent : Type 0 where
  pub left : List Tree
  pub right : List Tree

-- the rule's condition
abbrev pub Fits : Rule → List Tree → List Tree → Type 0
Fits (Ax f) g d = Has g f × Has d f
Fits TrueR g d = Has d true_
Fits FalseL g d = Has g false_
Fits (Weak g1 d1) g d = HasAll g g1 × HasAll d d1
Fits (Cut f) g d = Unit {0}
Fits (NotL f) g d = Has g (not_ f)
Fits (NotR f) g d = Has d (not_ f)
Fits (AndL a b) g d = Has g (and_ a b)
Fits (AndR a b) g d = Has d (and_ a b)
Fits (OrL a b) g d = Has g (or_ a b)
Fits (OrR a b) g d = Has d (or_ a b)
Fits (ImpL a b) g d = Has g (imp_ a b)
Fits (ImpR a b) g d = Has d (imp_ a b)
Fits (IffL a b) g d = Has g (iff_ a b)
Fits (IffR a b) g d = Has d (iff_ a b)
Fits (AllL p t) g d = Has g (all_ p) × IsClosed t
Fits (AllR p) g d = Has d (all_ p)
Fits (ExL p) g d = Has g (ex_ p)
Fits (ExR p t) g d = Has d (ex_ p) × IsClosed t
Fits (Refl t) g d = Has d (eq_ t t)
Fits (Repl h s t) g d = Has g (eq_ s t) × Has g (inst h s) × IsScoped 1 h
Fits (Schema k z ps) g d = (i : Tree) × (instance_of k z ps ≡ Some i)

abbrev pub schema_premise : Option Tree → List Tree → List Tree → List Sequent
schema_premise None g d = []
schema_premise (Some i) g d = record { left = i ∷ g; right = d } ∷ []

abbrev pub one : List Tree → List Tree → List Sequent
one g d = record { left = g; right = d } ∷ []

abbrev pub both : List Tree → List Tree → List Tree → List Tree → List Sequent
both g d g' d' = record { left = g; right = d } ∷ record { left = g'; right = d' } ∷ []

abbrev pub premises : Rule → List Tree → List Tree → List Sequent
premises (Ax f) g d = []
premises TrueR g d = []
premises FalseL g d = []
premises (Weak g1 d1) g d = one g1 d1
premises (Cut f) g d = both g (f ∷ d) (f ∷ g) d
premises (NotL f) g d = one g (f ∷ d)
premises (NotR f) g d = one (f ∷ g) d
premises (AndL a b) g d = one (a ∷ b ∷ g) d
premises (AndR a b) g d = both g (a ∷ d) g (b ∷ d)
premises (OrL a b) g d = both (a ∷ g) d (b ∷ g) d
premises (OrR a b) g d = one g (a ∷ b ∷ d)
premises (ImpL a b) g d = both g (a ∷ d) (b ∷ g) d
premises (ImpR a b) g d = one (a ∷ g) (b ∷ d)
premises (IffL a b) g d = both (a ∷ b ∷ g) d g (a ∷ b ∷ d)
premises (IffR a b) g d = both (a ∷ g) (b ∷ d) (b ∷ g) (a ∷ d)
premises (AllL p t) g d = one (inst p t ∷ g) d
premises (AllR p) g d = one g (inst p (choose_ (not_ p)) ∷ d)
premises (ExL p) g d = one (inst p (choose_ p) ∷ g) d
premises (ExR p t) g d = one g (inst p t ∷ d)
premises (Refl t) g d = []
premises (Repl h s t) g d = one (inst h t ∷ g) d
premises (Schema k z ps) g d = schema_premise (instance_of k z ps) g d

mutual
  pub data Proof : Type 0 where
    step : Rule → Proofs → Proof

  pub data Proofs : Type 0 where
    no_more : Proofs
    more : Proof → Proofs → Proofs

abbrev mutual
  pub Correct : Proof → List Tree → List Tree → Type 0
  Correct (step r ps) g d = AllClosed g × AllClosed d × Fits r g d × AreCorrect ps (premises r g d)

  pub AreCorrect : Proofs → List Sequent → Type 0
  AreCorrect no_more [] = Unit {0}
  AreCorrect no_more (q ∷ qs) = ⊥
  AreCorrect (more p ps) [] = ⊥
  AreCorrect (more p ps) (q ∷ qs) = Correct p q.left q.right × AreCorrect ps qs

abbrev pub Der : List Tree → List Tree → Type 0
Der g d = (p : Proof) × Correct p g d
