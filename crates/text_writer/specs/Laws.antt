-- Laws of what is written.
use Rattle.std.specs.Prelude.{◌≡◌, ◌↔◌, ℕ, List, [], ◌∷◌}
use Rattle.core_expr.specs.declared.canon.Canon.{Canon}
use Rattle.core_expr.specs.Tree.{Tree}
use Rattle.core_expr.specs.Heads.{IsWellFormed}
use Rattle.proof_text.specs.Texts.{IsCanonicalForm, Shows}
use Rattle.seq_calculus.specs.Calculus.{Proof}
use Rattle.seq_calculus.specs.Lists.{Lists, AreLists, written}
use Rattle.seq_calculus.specs.Steps.{proof_of}
use Rattle.text_writer.specs.Tables.{canon_list}
use Rattle.text_writer.specs.Proofs.{proof_list}

abbrev pub AreWellFormed : List Tree → Type 0
AreWellFormed [] = Unit {0}
AreWellFormed (t ∷ ts) = IsWellFormed t × AreWellFormed ts

-- what is written of a canonical form is read back as it
abbrev pub CanonIsShown : Type 0
CanonIsShown = (c : Canon) → AreWellFormed c.facts → IsWellFormed c.goal → IsCanonicalForm c → Shows (canon_list c) c

-- the list is how lists are written that stand for this proof
abbrev pub ShowsProof : List ℕ → Proof → Type 0
ShowsProof t p = (l : Lists) × AreLists l × (written l ≡ t) × (proof_of l ≡ p)

-- what is written of a proof is read back as one with the same tree
abbrev pub ProofIsShown : Type 0
ProofIsShown = (l : Lists) → AreLists l → ShowsProof (proof_list l) (proof_of l)

-- proofs are written alike exactly where they have the same tree
abbrev pub AlikeIfSame : Type 0
AlikeIfSame = (l m : Lists) → AreLists l → AreLists m → (proof_list l ≡ proof_list m) ↔ (proof_of l ≡ proof_of m)
