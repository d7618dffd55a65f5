-- One term for each metavariable, by indices.
use Rattle.std.specs.Prelude.{◌≡◌, ℕ, ◌<◌, Some, List, length}
use Rattle.core_expr.specs.Tree.{Tree}
use Rattle.core_expr.specs.Tree.Tree.{app}
use Rattle.core_expr.specs.Tree.Parts.{end}
use Rattle.core_expr.specs.Nodes.{canon_sym}
use Rattle.term_bank.specs.Banks.{HasTree}
use Rattle.term_bank.specs.Images.{In, found}

-- q is the node of one of these metavariables
pub record IsMetaNode (ts : List Tree) (ns : List ℕ) (q : ℕ) : Type 0 where
  pub name : ℕ
  pub listed : In name ns
  pub tree : HasTree ts q (app (canon_sym name 0) end)

-- the node of this metavariable has the image spare
pub record HasGround (ts : List Tree) (n spare : ℕ) (images : List (ℕ × ℕ)) : Type 0 where
  pub node : ℕ
  pub image : found node images ≡ Some spare
  pub tree : HasTree ts node (app (canon_sym n 0) end)

-- the node of each of these metavariables has the image spare, and no other has an image
pub record AreGround (ts : List Tree) (ns : List ℕ) (spare : ℕ) (images : List (ℕ × ℕ)) : Type 0 where
  pub within : spare < length ts
  pub only : (q k : ℕ) → found q images ≡ Some k → (k ≡ spare) × IsMetaNode ts ns q
  pub all : (n : ℕ) → In n ns → HasGround ts n spare images
