-- What the derivation of a theorem asks of names: closed formulas, and NEW symbols that nothing before them has.
use Rattle.std.specs.Prelude.{◌≡◌, ℕ, suc, ◌≤◌, Bool, true, false, ◌⊎◌, nat_eq, List, [], ◌∷◌}
use Rattle.core_expr.specs.declared.head.Sym.{Sym}
use Rattle.core_expr.specs.Tree.{Tree}
use Rattle.core_expr.specs.Terms.{same_sym}
use Rattle.seq_calculus.specs.Calculus.{HasAll, IsClosed}
use Rattle.obligation.specs.declared.obligation.Definition.{Definition}
use Rattle.obligation.specs.Unfolding.{is_defined}
use Rattle.proof_contexts.specs.Expansion.{IsBelow}
use Rattle.proof_contexts.specs.Steps.{Item, Fact, Proof, Steps, Step}
use Rattle.proof_contexts.specs.Steps.Item.{New, NewIn, Given}
use Rattle.proof_contexts.specs.Steps.Fact.{Cited, Plain}
use Rattle.proof_contexts.specs.Steps.Proof.{Missing, Omitted, Obvious, By, Stepped}
use Rattle.proof_contexts.specs.Steps.Steps.{Qed, Next}
use Rattle.proof_contexts.specs.Steps.Step.{Assert, Case, Suffices, Have, Take, TakeIn, Witness, WitnessIn, Pick, Define, Use, Hide}
use Rattle.proof_contexts.specs.Contexts.{fact_of, picked}
use Rattle.proof_contexts.specs.Theorems.{Known, Theorem, fact, assumes}
use Rattle.proof_contexts.specs.Theorems.Known.{Assumption, Earlier}

-- ---- definitions

-- Rank is an order of declaration. No two definitions have one symbol, and each stands behind those of a lower rank.
module _ (rank : Sym → ℕ) where
  abbrev pub IsFirst : Definition → List Definition → Type 0
  IsFirst d [] = Unit {0}
  IsFirst d (e ∷ ds) = (same_sym d.symbol e.symbol ≡ false) × (rank d.symbol ≤ rank e.symbol) × IsFirst d ds

  -- and each body has symbols of a rank below its own symbol's alone
  abbrev pub AreOrdered : List Definition → Type 0
  AreOrdered [] = Unit {0}
  AreOrdered (d ∷ ds) = IsBelow rank (rank d.symbol) d.body × IsFirst d ds × AreOrdered ds

-- ---- proofs

module _ (rank : Sym → ℕ) (table : List Definition) where
  -- a closed formula whose symbols have ranks below n
  pub record IsGood (n : ℕ) (e : Tree) : Type 0 where
    pub closed : IsClosed e
    pub below : IsBelow rank n e

  -- a symbol of rank n or above, which is no definition's
  pub record IsNew (n : ℕ) (x : Sym) : Type 0 where
    pub above : n ≤ rank x
    pub undefined : is_defined table x ≡ false

  -- what is declared by items has ranks from n up to this level
  abbrev pub level_items : ℕ → List Item → ℕ
  level_items n [] = n
  level_items n (New x ∷ is) = level_items (suc (rank x)) is
  level_items n (NewIn x s ∷ is) = level_items (suc (rank x)) is
  level_items n (Given a ∷ is) = level_items n is

  -- items over symbols below n, of which each NEW one is new, for the formula that make builds: fact_of or picked
  abbrev pub RightItems : (List Item → Tree → Tree) → ℕ → List Item → Tree → Type 0
  RightItems make n [] g = IsGood n (make [] g)
  RightItems make n (New x ∷ is) g = IsNew n x × IsGood n (make (New x ∷ is) g) × RightItems make (suc (rank x)) is g
  RightItems make n (NewIn x s ∷ is) g =
      IsNew n x × IsGood n (make (NewIn x s ∷ is) g) × IsGood n s × RightItems make (suc (rank x)) is g
  RightItems make n (Given a ∷ is) g = IsGood n a × IsGood n (make (Given a ∷ is) g) × RightItems make n is g

  -- the level of the later steps
  abbrev pub level_after : ℕ → Step → ℕ
  level_after n (Suffices l s p) = level_items n s.items
  level_after n (Take x) = suc (rank x)
  level_after n (TakeIn l x s) = suc (rank x)
  level_after n (Pick l is f p) = level_items n is
  level_after n _ = n

-- may: the names that may be cited
module _ (rank : Sym → ℕ) (table : List Definition) (may : ℕ → Bool) where
  abbrev pub RightFacts : ℕ → List Fact → Type 0
  RightFacts n [] = Unit {0}
  RightFacts n (Cited x ∷ fs) = (may x ≡ true) × RightFacts n fs
  RightFacts n (Plain p e ∷ fs) = IsGood rank table n e × RightFacts n fs

  -- A proof over symbols below n. Before each step, and before each proof, the level may be raised, as DEFINE does past what it
  -- defines.
  abbrev mutual
    pub RightProof : Proof → ℕ → Type 0
    RightProof (Missing p) n = Unit {0}
    RightProof (Omitted p) n = Unit {0}
    RightProof (Obvious p) n = Unit {0}
    RightProof (By p only fs u) n = RightFacts n fs
    RightProof (Stepped ss) n = RightSteps ss n

    pub RightSteps : Steps → ℕ → Type 0
    RightSteps (Qed p) n = (m : ℕ) × (n ≤ m) × RightProof p m
    RightSteps (Next p s ss) n = (m : ℕ) × (n ≤ m) × RightStep s m × RightSteps ss (level_after rank table m s)

    pub RightStep : Step → ℕ → Type 0
    RightStep (Assert l s p) n =
        RightItems rank table fact_of n s.items s.goal
        × ((m : ℕ) × (level_items rank table n s.items ≤ m) × RightProof p m)
    RightStep (Case l f p) n = IsGood rank table n f × ((m : ℕ) × (n ≤ m) × RightProof p m)
    RightStep (Suffices l s p) n =
        RightItems rank table fact_of n s.items s.goal × ((m : ℕ) × (n ≤ m) × RightProof p m)
    RightStep (Have l f) n = IsGood rank table n f
    RightStep (Take x) n = IsNew rank table n x
    RightStep (TakeIn l x s) n = IsNew rank table n x × IsGood rank table n s
    RightStep (Witness t) n = IsGood rank table n t
    RightStep (WitnessIn l t s) n = IsGood rank table n t × IsGood rank table n s
    RightStep (Pick l is f p) n = RightItems rank table picked n is f × ((m : ℕ) × (n ≤ m) × RightProof p m)
    RightStep (Define u) n = Unit {0}
    RightStep (Use l fs u) n = RightFacts n fs
    RightStep (Hide xs u) n = Unit {0}

  -- ---- theorems

  abbrev pub RightKnown : ℕ → List Known → Type 0
  RightKnown n [] = Unit {0}
  RightKnown n (Assumption l f ∷ ks) = IsGood rank table n f × RightKnown n ks
  RightKnown n (Earlier k f ∷ ks) = IsGood rank table n f × RightKnown n ks

  -- what is declared before the theorem has ranks below n
  pub record RightTheorem (n : ℕ) (t : Theorem) : Type 0 where
    pub known : RightKnown n t.known
    pub statement : RightItems rank table fact_of n t.statement.items t.statement.goal
    pub proof : (m : ℕ) × (level_items rank table n t.statement.items ≤ m) × RightProof t.proof m

abbrev pub Among : List Theorem → Theorem → Type 0
Among [] t = ⊥
Among (x ∷ xs) t = (x ≡ t) ⊎ Among xs t

-- the number is the name of none of these
abbrev pub IsOther : ℕ → List Theorem → Type 0
IsOther k [] = Unit {0}
IsOther k (u ∷ us) = (nat_eq k u.key ≡ false) × IsOther k us

module _ (table : List Definition) where
  -- each earlier theorem that the theorem t knows is one of these, and what it assumes is assumed for t
  abbrev pub Stand : List Theorem → Theorem → List Known → Type 0
  Stand ts t [] = Unit {0}
  Stand ts t (Assumption l f ∷ ks) = Stand ts t ks
  Stand ts t (Earlier k f ∷ ks) =
      ((u : Theorem) × Among ts u × (u.key ≡ k) × (fact u ≡ f) × HasAll (assumes table t) (assumes table u)) × Stand ts t ks

module _ (rank : Sym → ℕ) (table : List Definition) (is_theorem : ℕ → Bool) where
  -- theorems in order behind others, as the scope rules leave them: of different names, right, and knowing earlier ones alone
  abbrev pub InOrder : List Theorem → List Theorem → Type 0
  InOrder ts [] = Unit {0}
  InOrder ts (t ∷ us) =
      Stand table ts t t.known × ((n : ℕ) × RightTheorem rank table (λ _. true) n t) × (is_theorem t.key ≡ true)
      × IsOther t.key ts × InOrder (t ∷ ts) us
