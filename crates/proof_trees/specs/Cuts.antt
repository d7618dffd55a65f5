-- The proof trees of the ranks term split and take up.
use Rattle.std.specs.Prelude.{List, [], ◌∷◌}
use Rattle.core_expr.specs.Tree.{Tree, not_, eq_, in_, apply_, if_, ex_, fun_}
use Rattle.core_expr.specs.Put.{inst}
use Rattle.seq_calculus.specs.Calculus.{Proof}
use Rattle.seq_calculus.specs.Calculus.Rule.{Ax, TrueR, Cut, NotR, ImpL, ExL}
use Rattle.search_definition.specs.Values.{Truth, truth}
use Rattle.search_definition.specs.Values.Truth.{Yes, No, Unknown}
use Rattle.proof_writer.specs.Shapes.{leaf, over, join, neg_left, with_schema}
use Rattle.proof_trees.specs.Abstracted.{put_for}
use Rattle.proof_trees.specs.Valued.{shows, entries_of}

-- rank take up
abbrev pub take_up_by : Tree → Proof → Proof → Proof
take_up_by p c d = join (Cut (ex_ p)) (neg_left (ex_ p) d) (over (ExL p) c)

-- the schema's instance is p => s = t, and p stands: t for s in f
abbrev pub if_then : Tree → Tree → Tree → Tree → Proof → Proof
if_then p s t f c = join (ImpL p (eq_ s t)) (leaf (Ax p)) (put_for s t f c)

abbrev pub then_by : Tree → Tree → Tree → Tree → Proof → Proof
then_by p x y f c = with_schema 13 0 (p ∷ x ∷ y ∷ []) (if_then p (if_ p x y) x f c)

abbrev pub else_by : Tree → Tree → Tree → Tree → Proof → Proof
else_by p x y f c = with_schema 14 0 (p ∷ x ∷ y ∷ []) (if_then (not_ p) (if_ p x y) y f c)

abbrev pub applied_by : Tree → Tree → Tree → Tree → Proof → Proof
applied_by a s e f c = with_schema 16 0 (a ∷ s ∷ e ∷ []) (if_then (in_ a s) (apply_ (fun_ s e) a) (inst e a) f c)

-- a case distinction by p, where k makes a proof with p on the left and m one with ~p
module _ (p : Tree) (k m : Proof → Proof) where
  -- settled by the value of p on the grounds
  abbrev pub cut_settled : Truth → List Tree → Proof → Proof
  cut_settled Yes gs c = join (Cut p) (shows (entries_of gs) p) (k c)
  cut_settled No gs c = join (Cut (not_ p)) (over (NotR p) (shows (entries_of gs) p)) (m c)
  cut_settled Unknown gs c = c

  abbrev pub cases_by : List Tree → List Proof → Proof
  cases_by gs [] = leaf TrueR
  cases_by gs (c ∷ []) = cut_settled (truth (entries_of gs) p) gs c
  cases_by gs (c ∷ d ∷ ps) = join (Cut p) (neg_left p (m d)) (k c)

-- rank term split at the subterm u of f, by the grounds gs
abbrev pub term_split_by : Tree → Tree → List Tree → List Proof → Proof
term_split_by (if_ p x y) f gs ps = cases_by p (then_by p x y f) (else_by p x y f) gs ps
term_split_by (apply_ (fun_ s e) a) f gs ps = cases_by (in_ a s) (applied_by a s e f) (λ c. c) gs ps
term_split_by _ f gs ps = leaf TrueR
