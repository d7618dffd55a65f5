-- The loop over the steps of a search, from the last to the first, with one mark for each formula.
use Rattle.std.specs.Prelude.{ℕ, suc, ◌-◌, ◌||◌, Bool, true, false, nat_eq, Option, Some, None, List, [], ◌∷◌}
use Rattle.std.proofs.Common.{get_or}
use Rattle.core_expr.specs.Tree.{Tree}
use Rattle.seq_calculus.specs.Calculus.{Proof}
use Rattle.search_definition.specs.declared.rule.Clash.TheVariants.{Falsehood}
use Rattle.search_definition.specs.Terms.{if_so, in_list}
use Rattle.search_definition.specs.Branches.{Closing}
use Rattle.search_definition.specs.Rules.{Sides, Result}
use Rattle.search_definition.specs.Rules.Sides.{Alone, Both}
use Rattle.search_definition.specs.Search.{Move}
use Rattle.search_definition.specs.Search.Move.{Shuts, Applied}
use Rattle.proof_writer.specs.Shapes.{first_of, second_of, rest_of}
use Rattle.proof_trees.specs.Closings.{closing_by}
use Rattle.proof_trees.specs.By.{by}

-- A finished second side: the number of its split, and whether it uses what the split newly added there.
pub record Second : Type 0 where
  pub number : ℕ
  pub needed : Bool

-- the proofs of finished parts, the latest first, and the second sides among them
pub record Parts : Type 0 where
  pub proofs : List Proof
  pub seconds : List Second

-- beside them the marks of formulas that finished parts use
pub record State : Type 0 where
  pub marks : Tree → Bool
  pub parts : Parts

-- the marks with those of these formulas, and without them
abbrev pub marked : (Tree → Bool) → List Tree → Tree → Bool
marked m fs f = in_list fs f || m f

abbrev pub unmarked : (Tree → Bool) → List Tree → Tree → Bool
unmarked m fs f = if_so (in_list fs f) false (m f)

-- one of the formulas is marked
abbrev pub some : (Tree → Bool) → List Tree → Bool
some m [] = false
some m (f ∷ fs) = m f || some m fs

-- those of the formulas that are new
abbrev pub picks : List Tree → List Bool → List Tree
picks [] ns = []
picks (f ∷ fs) [] = []
picks (f ∷ fs) (n ∷ ns) = if_so n (f ∷ picks fs ns) (picks fs ns)

abbrev pub push : Proof → Parts → Parts
push p ps = record { proofs = p ∷ ps.proofs; seconds = ps.seconds }

abbrev pub flagged : ℕ → Bool → Parts → Parts
flagged n x ps = record { proofs = ps.proofs; seconds = record { number = n; needed = x } ∷ ps.seconds }

-- the latest second side is that of the split n
abbrev pub is_of : List Second → ℕ → Bool
is_of [] n = false
is_of (s ∷ ss) n = nat_eq s.number n

-- the latest second side is needed
abbrev pub is_needed : List Second → Bool
is_needed [] = false
is_needed (s ∷ ss) = s.needed

abbrev pub earlier : List Second → List Second
earlier [] = []
earlier (s ∷ ss) = ss

-- the rule over the latest finished part
abbrev pub over_one : Result → Parts → Parts
over_one r ps = record { proofs = by r (first_of ps.proofs ∷ []) ∷ rest_of ps.proofs; seconds = ps.seconds }

-- the split over the two latest, where both sides are needed; the second, where the first alone is; else the first
abbrev pub pair_of : Result → Bool → Bool → List Proof → Proof
pair_of r x y ps = if_so x (if_so y (by r (first_of ps ∷ second_of ps ∷ [])) (second_of ps)) (first_of ps)

abbrev pub over_two : Result → Bool → Parts → Parts
over_two r x ps = record { proofs = pair_of r x (is_needed ps.seconds) ps.proofs ∷ rest_of (rest_of ps.proofs); seconds = earlier ps.seconds }

-- a closing: its formulas are marked
abbrev pub shut_by : Closing → State → State
shut_by c s = record { marks = marked s.marks c.entries; parts = push (closing_by c) s.parts }

-- the steps of the second side of the split n, which newly added ns there, are done
abbrev pub second_by : ℕ → List Tree → State → State
second_by n ns s = record { marks = unmarked s.marks ns; parts = flagged n (some s.marks ns) s.parts }

-- a rule with one side, which newly added ns
abbrev pub one_by : Result → List Tree → State → State
one_by r ns s = if_so (some s.marks ns) (record { marks = marked (unmarked s.marks ns) r.step.named; parts = over_one r s.parts }) s

-- a split, which newly added ns on its first side
abbrev pub both_by : Result → List Tree → State → State
both_by r ns s = record {
  marks = if_so (some s.marks ns || is_needed s.parts.seconds) (marked (unmarked s.marks ns) r.step.named) (unmarked s.marks ns);
  parts = over_two r (some s.marks ns) s.parts;
}

-- a split: one whose second side has steps, or one whose first side alone has
abbrev pub split_by : Bool → Result → List Tree → State → State
split_by true r ns s = both_by r ns s
split_by false r ns s = s

abbrev pub no_move : Move
no_move = Shuts (record { clash = Falsehood; entries = [] }) None

-- what the move newly added on the second side
abbrev pub second_added : Sides → List Bool → List Tree
second_added (Alone fs) ns = []
second_added (Both fs gs) ns = picks gs ns

abbrev pub second_news : Move → List Tree
second_news (Shuts c next) = []
second_news (Applied r xs ys) = second_added r.step.sides ys

-- the step of the turn n, from 1
abbrev pub move_at : List Move → ℕ → Move
move_at ms n = get_or ms (n - 1) no_move

-- where the second side of a split is done with the steps behind
abbrev pub resumed : List Move → Option ℕ → State → State
resumed all None s = s
resumed all (Some n) s = second_by n (second_news (move_at all n)) s

-- the rule of the turn n
abbrev pub applied_by : ℕ → Result → Sides → List Bool → State → State
applied_by n r (Alone fs) xs s = one_by r (picks fs xs) s
applied_by n r (Both fs gs) xs s = split_by (is_of s.parts.seconds n) r (picks fs xs) s

-- the state before the step of the turn n, from that behind it; all are the steps of the search
abbrev pub turned : List Move → ℕ → Move → State → State
turned all n (Shuts c next) s = shut_by c (resumed all next s)
turned all n (Applied r xs ys) s = applied_by n r r.step.sides xs s

abbrev pub no_state : State
no_state = record { marks = λ f. false; parts = record { proofs = []; seconds = [] } }

-- the state before the first of these steps, which is that of the turn n
abbrev pub back : List Move → ℕ → List Move → State
back all n [] = no_state
back all n (m ∷ ms) = turned all n m (back all (suc n) ms)

-- the proof that the loop ends with
abbrev pub proof_of_moves : List Move → Proof
proof_of_moves ms = first_of (back ms 1 ms).parts.proofs
