-- The lists of a proof: the steps of its tree, each premise before its step, and the table of their expressions.
use Rattle.std.specs.Prelude.{ℕ, List, [], ◌∷◌, ◌++◌, length}
use Rattle.core_expr.specs.Tree.{Tree}
use Rattle.seq_calculus.specs.Calculus.{Rule, Proof, Proofs}
use Rattle.seq_calculus.specs.Calculus.Rule.{Ax, TrueR, FalseL, Weak, Cut, NotL, NotR, AndL, AndR, OrL, OrR, ImpL, ImpR, IffL, IffR, AllL, AllR, ExL, ExR, Refl, Repl, Schema}
use Rattle.seq_calculus.specs.Calculus.Proof.{step}
use Rattle.seq_calculus.specs.Calculus.Proofs.{no_more, more}
use Rattle.seq_calculus.specs.declared.lists.ProofStep.{ProofStep}
use Rattle.seq_calculus.specs.Lists.{Lists, written}
use Rattle.seq_calculus.specs.Steps.{proof_of}
use Rattle.text_writer.specs.Tables.{AllPlaced, enter_all}

-- a rule as lists keep it: its number, its numbers and its expressions
pub record Kept : Type 0 where
  pub rule : ℕ
  pub numbers : List ℕ
  pub exprs : List Tree

-- a rule without numbers
abbrev pub plain : ℕ → List Tree → Kept
plain r es = record { rule = r; numbers = []; exprs = es }

abbrev pub kept : Rule → Kept
kept (Ax f) = plain 0 (f ∷ [])
kept TrueR = plain 1 []
kept FalseL = plain 2 []
kept (Weak g d) = record { rule = 3; numbers = length g ∷ length d ∷ []; exprs = g ++ d }
kept (Cut f) = plain 4 (f ∷ [])
kept (NotL f) = plain 5 (f ∷ [])
kept (NotR f) = plain 6 (f ∷ [])
kept (AndL a b) = plain 7 (a ∷ b ∷ [])
kept (AndR a b) = plain 8 (a ∷ b ∷ [])
kept (OrL a b) = plain 9 (a ∷ b ∷ [])
kept (OrR a b) = plain 10 (a ∷ b ∷ [])
kept (ImpL a b) = plain 11 (a ∷ b ∷ [])
kept (ImpR a b) = plain 12 (a ∷ b ∷ [])
kept (IffL a b) = plain 13 (a ∷ b ∷ [])
kept (IffR a b) = plain 14 (a ∷ b ∷ [])
kept (AllL p t) = plain 15 (p ∷ t ∷ [])
kept (AllR p) = plain 16 (p ∷ [])
kept (ExL p) = plain 17 (p ∷ [])
kept (ExR p t) = plain 18 (p ∷ t ∷ [])
kept (Refl t) = plain 19 (t ∷ [])
kept (Repl h s t) = plain 20 (h ∷ s ∷ t ∷ [])
kept (Schema k z es) = record { rule = 21; numbers = k ∷ z ∷ length es ∷ []; exprs = es }

-- lists, and the place of a proof's last step in them
pub record Entered : Type 0 where
  pub lists : Lists
  pub place : ℕ

-- lists, and the places of the last steps of proofs
pub record AllEntered : Type 0 where
  pub lists : Lists
  pub places : List ℕ

-- the lists with a step over these premises, whose expressions stand in the table
abbrev pub added : Kept → List ℕ → AllPlaced → List ProofStep → Lists
added k ps e ss = record { nodes = e.nodes; steps = ss ++ record { rule = k.rule; numbers = k.numbers; exprs = e.places; premises = ps } ∷ [] }

-- a step, once its premises are in the lists
abbrev pub with_step : Kept → AllEntered → Entered
with_step k a = record { lists = added k a.places (enter_all k.exprs a.lists.nodes) a.lists.steps; place = length a.lists.steps }

-- a proof before those of what follows
abbrev pub with_first : Entered → (Lists → AllEntered) → AllEntered
with_first e f = record { lists = (f e.lists).lists; places = e.place ∷ (f e.lists).places }

-- the lists with the steps of a proof, each premise before its step, and the place of the last one
abbrev mutual
  pub enter_proof : Proof → Lists → Entered
  enter_proof (step r ps) l = with_step (kept r) (enter_proofs ps l)

  pub enter_proofs : Proofs → Lists → AllEntered
  enter_proofs no_more l = record { lists = l; places = [] }
  enter_proofs (more p ps) l = with_first (enter_proof p l) (enter_proofs ps)

abbrev pub no_lists : Lists
no_lists = record { nodes = []; steps = [] }

-- the lists of a proof tree
abbrev pub lists_of : Proof → Lists
lists_of p = (enter_proof p no_lists).lists

-- the list of a proof: how the lists of its tree are written
unfoldable pub proof_list : Lists → List ℕ
proof_list l = written (lists_of (proof_of l))
