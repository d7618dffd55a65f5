-- Entries of a branch by numbers.
use Rattle.std.proofs.Common.{◌≡◌, ℕ, zero, suc, ◌+◌, ◌<◌, ◌≤◌, Bool, true, false, inl, inr, Option, Some, None, List, [], ◌∷◌, length, refl, ap, sym, ◌∙◌, arith, subst}
use Rattle.std.proofs.lemmas.List.{length-map}
use Rattle.std.proofs.lemmas.Bool.{cases_lt}
use Rattle.core_expr.specs.Tree.{Tree}
use Rattle.core_expr.specs.Put.{IsScoped}
use Rattle.seq_calculus.specs.Calculus.{AllClosed}
use Rattle.term_bank.specs.Banks.{Extends, tree_at}
use Rattle.term_bank.proofs.SlotLaws.{map_at}
use Rattle.term_shapes.proofs.Extending.{tree-extend, longer}
use Rattle.search_definition.specs.Branches.{Entry, Branch, formulas}
use Rattle.search_definition.specs.Rules.{Step, at_live, oldest}
use Rattle.search_definition.specs.Watches.{no_entry, entry_at, NoneBefore}
use Rattle.search_definition.proofs.Positions.{oldest_found, oldest_none}
use Rattle.branch_state.specs.Shown.{Placed, placed_at, no_place}
use Rattle.formula_rules.specs.declared.given.Given.{Given}
use Rattle.formula_rules.specs.Answers.{HasAnswer, GivenBelow, step_of}
use Rattle.rank_rules.specs.Ranked.{rule_of, rank_of, entry_of, branch_of, AreKnown, FitsAt}
use Rattle.rank_rules.specs.declared.entry_rank.EntryRank.{EntryRank}
use Rattle.rank_rules.specs.declared.entry_rank.EntryRank.TheVariants.{Plain, Derive, Choice, Split, Extension}
use Rattle.search_definition.specs.Instances.{Fresh}
use Rattle.search_definition.specs.Search.{by_rank}

pub known_at : (n : ℕ) (es : List Placed) (i : ℕ) → AreKnown n es → i < length es → (placed_at es i).formula < n
known_at n [] i k l = absurd (omega arith)
known_at n (e ∷ es) zero k l = k.0
known_at n (e ∷ es) (suc i) k l = known_at n es i k.1 (omega arith)

pub closed_at : (ts : List Tree) (es : List Placed) (i : ℕ) → AllClosed (formulas (branch_of ts es)) → i < length es → IsScoped 0 (tree_at ts (placed_at es i).formula)
closed_at ts [] i c l = absurd (omega arith)
closed_at ts (e ∷ es) zero c l = c.0
closed_at ts (e ∷ es) (suc i) c l = closed_at ts es i c.1 (omega arith)

pub length-branch : (ts : List Tree) (es : List Placed) → length (branch_of ts es) ≡ length es
length-branch ts es = length-map es (entry_of ts)

pub entry-at : (ts : List Tree) (es : List Placed) (i : ℕ) → i < length es → entry_at (branch_of ts es) i ≡ entry_of ts (placed_at es i)
entry-at ts es i l = map_at (entry_of ts) es i no_place no_entry l

-- a longer bank leaves the branch
pub branch_kept : (ts ts' : List Tree) (es : List Placed) → Extends ts ts' → AreKnown (length ts) es → branch_of ts' es ≡ branch_of ts es
branch_kept ts ts' [] x k = refl
branch_kept ts ts' (e ∷ es) x k = λ i. record { formula = tree-extend ts ts' e.formula x k.0 i; live = e.live; count = e.count } ∷ branch_kept ts ts' es x k.1 i

pub known_more : (ts ts' : List Tree) (es : List Placed) → length ts ≤ length ts' → AreKnown (length ts) es → AreKnown (length ts') es
known_more ts ts' [] x k = tt
known_more ts ts' (e ∷ es) x k = let l : e.formula < length ts = k.0 in (omega arith, known_more ts ts' es x k.1)

-- an answer that is none, and one that is some
pub none_answer : (ts : List Tree) (o : Option Step) → HasAnswer ts None o → o ≡ None
none_answer ts None h = refl
none_answer ts (Some s) h = absurd h

pub some_answer : (ts : List Tree) (g : Given) (o : Option Step) → HasAnswer ts (Some g) o → o ≡ Some (step_of ts g)
some_answer ts g None h = absurd h
some_answer ts g (Some s) h = ap (λ s. Some s) (sym h.is)

pub some_below : (ts : List Tree) (g : Given) (o : Option Step) → HasAnswer ts (Some g) o → GivenBelow (length ts) g
some_below ts g None h = absurd h
some_below ts g (Some s) h = h.below

-- a rule that fits at an entry: the entry is live
live_fits : (rule : Tree → Option Step) (l : Bool) (f : Tree) (s : Step) → at_live rule l f ≡ Some s → (l ≡ true) × (rule f ≡ Some s)
live_fits rule true f s e = (refl, e)
live_fits rule false f s e = cc

-- no entry before the next one fits, where this one does not
pub passed_more : (rule : Tree → Option Step) (ts ts' : List Tree) (es : List Placed) (i : ℕ) → i < length es → NoneBefore rule i (branch_of ts es) → HasAnswer ts' None (at_live rule (placed_at es i).live (tree_at ts (placed_at es i).formula)) → NoneBefore rule (i + 1) (branch_of ts es)
passed_more rule ts ts' es i l n h j u v w = elim (cases_lt j i) [
  | inl a ↦ n j a v w
  | inr a ↦
      let e : j ≡ i = omega arith in
      let q : entry_at (branch_of ts es) j ≡ entry_of ts (placed_at es i) = ap (entry_at (branch_of ts es)) e ∙ entry-at ts es i l in
      let live : (placed_at es i).live ≡ true = sym (ap (λ (d : Entry). d.live) q) ∙ w in
      ap (λ (d : Entry). rule d.formula) q ∙ ap (λ b. at_live rule b (tree_at ts (placed_at es i).formula)) (sym live) ∙ none_answer ts' _ h
]

-- the oldest entry that the rule fits is this one
pub fits_here : (rule : Branch → Tree → Option Step) (ts ts' : List Tree) (es : List Placed) (i : ℕ) (g : Given) → Extends ts ts' → AreKnown (length ts) es → i < length es → NoneBefore (rule (branch_of ts es)) i (branch_of ts es) → HasAnswer ts' (Some g) (at_live (rule (branch_of ts es)) (placed_at es i).live (tree_at ts (placed_at es i).formula)) → FitsAt ts' es (oldest (rule (branch_of ts' es)) 0 (branch_of ts' es)) (record { entry = i; given = g })
fits_here rule ts ts' es i g x k l n h =
    let live = live_fits (rule (branch_of ts es)) (placed_at es i).live (tree_at ts (placed_at es i).formula) (step_of ts' g) (some_answer ts' g _ h) in
    let q = entry-at ts es i l in
    record {
      is = ap (λ b. oldest (rule b) 0 b) (branch_kept ts ts' es x k)
          ∙ oldest_found (rule (branch_of ts es)) i (branch_of ts es) (step_of ts' g) n (subst (λ m. i < m) (sym (length-branch ts es)) l) (ap (λ (d : Entry). d.live) q ∙ live.0) (ap (λ (d : Entry). rule (branch_of ts es) d.formula) q ∙ live.1);
      below = some_below ts' g _ h;
      within = l;
      lives = live.0;
    }

-- no entry fits
pub fits_nowhere : (rule : Branch → Tree → Option Step) (ts : List Tree) (es : List Placed) (i : ℕ) → length es ≤ i → NoneBefore (rule (branch_of ts es)) i (branch_of ts es) → oldest (rule (branch_of ts es)) 0 (branch_of ts es) ≡ None
fits_nowhere rule ts es i l n = oldest_none (rule (branch_of ts es)) i (branch_of ts es) n (subst (λ m. m ≤ i) (sym (length-branch ts es)) l)

-- a position stays right in a longer bank
pub position_kept : (rule : Branch → Tree → Option Step) (ts ts' : List Tree) (es : List Placed) (i : ℕ) → Extends ts ts' → AreKnown (length ts) es → NoneBefore (rule (branch_of ts es)) i (branch_of ts es) → NoneBefore (rule (branch_of ts' es)) i (branch_of ts' es)
position_kept rule ts ts' es i x k n = subst (λ b. NoneBefore (rule b) i b) (sym (branch_kept ts ts' es x k)) n

-- the definition's rank is the oldest entry that its rule fits
pub ranked : (r : EntryRank) (w : Fresh) (b : Branch) → by_rank w b (rank_of r) ≡ oldest (rule_of r b) 0 b
ranked Plain w b = refl
ranked Derive w b = refl
ranked Choice w b = refl
ranked Split w b = refl
ranked Extension w b = refl

pub closed_kept : (ts ts' : List Tree) (es : List Placed) → Extends ts ts' → AreKnown (length ts) es → AllClosed (formulas (branch_of ts es)) → AllClosed (formulas (branch_of ts' es))
closed_kept ts ts' es x k c = subst (λ b. AllClosed (formulas b)) (sym (branch_kept ts ts' es x k)) c

pub known_kept : (ts ts' : List Tree) (es : List Placed) → Extends ts ts' → AreKnown (length ts) es → AreKnown (length ts') es
known_kept ts ts' es x k = known_more ts ts' es (longer ts ts' x) k
