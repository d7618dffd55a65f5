-- Proofs as plain data: each formula is a core expression, names are resolved, and the places are those of leaves.
use Rattle.std.specs.Prelude.{ℕ, Bool, Option, List}
use Rattle.core_expr.specs.declared.head.Sym.{Sym}
use Rattle.core_expr.specs.Tree.{Tree}
use Rattle.tla_ast.specs.declared.place.Place.{Place}

-- an item of ASSUME: NEW x, NEW x \in S, or an assumption. NEW VARIABLE x and NEW STATE x are two items, for x and for x'
pub data Item : Type 0 where
  New : Sym → Item
  NewIn : Sym → Tree → Item
  Given : Tree → Item

-- ASSUME items PROVE goal
pub record Statement : Type 0 where
  pub items : List Item
  pub goal : Tree

-- a fact of BY or USE: the name of one, as a number, or an expression with the place of its first token
pub data Fact : Type 0 where
  Cited : ℕ → Fact
  Plain : Place → Tree → Fact

mutual
  -- no proof, at the place of the step or theorem that needs one; OMITTED; OBVIOUS; BY, with ONLY or not, with facts and the
  -- numbers of the definitions after DEF; or steps
  pub data Proof : Type 0 where
    Missing : Place → Proof
    Omitted : Place → Proof
    Obvious : Place → Proof
    By : Place → Bool → List Fact → List ℕ → Proof
    Stepped : Steps → Proof

  -- steps up to QED, each with its place
  pub data Steps : Type 0 where
    Qed : Proof → Steps
    Next : Place → Step → Steps → Steps

  -- a step with its name, if it has a label. TAKE of several names and WITNESS of several expressions are as many steps; PICK has all
  -- of its names as items; DEFINE, USE and HIDE have the numbers of definitions; HIDE has the names of facts
  pub data Step : Type 0 where
    Assert : Option ℕ → Statement → Proof → Step
    Case : Option ℕ → Tree → Proof → Step
    Suffices : Option ℕ → Statement → Proof → Step
    Have : Option ℕ → Tree → Step
    Take : Sym → Step
    TakeIn : Option ℕ → Sym → Tree → Step
    Witness : Tree → Step
    WitnessIn : Option ℕ → Tree → Tree → Step
    Pick : Option ℕ → List Item → Tree → Proof → Step
    Define : List ℕ → Step
    Use : Option ℕ → List Fact → List ℕ → Step
    Hide : List ℕ → List ℕ → Step
