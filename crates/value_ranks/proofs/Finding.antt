-- What a rank finds.
use Rattle.std.proofs.Common.{◌≡◌, ℕ, ◌+◌, ◌<◌, ◌≤◌, Bool, true, false, List, length, refl, ap, sym, ◌∙◌, subst, arith}
use Rattle.std.specs.Prelude.{Option, Some, None}
use Rattle.core_expr.specs.Tree.{Tree}
use Rattle.term_bank.specs.Banks.{tree_at, Extends}
use Rattle.search_definition.specs.Branches.{Branch}
use Rattle.search_definition.specs.Rules.{Step, Result, at_live, oldest}
use Rattle.search_definition.specs.Instances.{Fresh}
use Rattle.search_definition.specs.Search.{by_rank}
use Rattle.search_definition.specs.Watches.{NoneBefore}
use Rattle.search_definition.proofs.Positions.{oldest_none}
use Rattle.branch_state.specs.Shown.{Placed, placed_at}
use Rattle.tableau_search.specs.declared.finder.Found.{Found}
use Rattle.tableau_search.specs.declared.finder.Found.TheVariants.{Alone, Splits}
use Rattle.tableau_search.specs.Entries.{branch_of, AreKnown}
use Rattle.tableau_search.specs.Found.{IsFound}
use Rattle.tableau_search.proofs.LiftLaws.{branch_kept, branch_length}
use Rattle.entry_positions.specs.Passed.{IsPassed}
use Rattle.entry_positions.proofs.PassedLaws.{passed_kept, passed_next, passed_found}
use Rattle.formula_rules.specs.declared.given.Given.{Given}
use Rattle.formula_rules.specs.Answers.{step_of, GivenBelow, HasAnswer}
use Rattle.branch_values.specs.News.{IsFoundAt}
use Rattle.value_ranks.specs.declared.oldest_entry.ValueRank.{ValueRank}
use Rattle.value_ranks.specs.declared.oldest_entry.ValueRank.TheVariants.{Settle, TakeUp, TermSplit}
use Rattle.value_ranks.specs.Ranked.{rank_of, rule_of, entry_used}

-- the definition's rank is the oldest entry that its rule fits
ranked : (k : ValueRank) (w : Fresh) (b : Branch) → by_rank w b (rank_of k) ≡ oldest (rule_of k b) 0 b
ranked Settle w b = refl
ranked TakeUp w b = refl
ranked TermSplit w b = refl

-- no answer at a live entry, and an answer
none_at : (ts : List Tree) (rule : Tree → Option Step) (live : Bool) (t : Tree) → HasAnswer ts None (at_live rule live t) → live ≡ true → rule t ≡ None
none_at ts rule true t h e = go (rule t) h
  where
    go : (o : Option Step) → HasAnswer ts None o → o ≡ None
    go None h = refl
    go (Some s) h = absurd h
none_at ts rule false t h e = cc

some_at : (ts : List Tree) (rule : Tree → Option Step) (live : Bool) (t : Tree) (g : Given) → HasAnswer ts (Some g) (at_live rule live t) → (live ≡ true) × (rule t ≡ Some (step_of ts g)) × GivenBelow (length ts) g
some_at ts rule true t g h = go (rule t) h
  where
    go : (o : Option Step) → HasAnswer ts (Some g) o → (true ≡ true) × (o ≡ Some (step_of ts g)) × GivenBelow (length ts) g
    go None h = absurd h
    go (Some s) h = (refl, ap (λ y. Some y) (sym h.is), h.below)
some_at ts rule false t g h = absurd h

pub given_below : (ts : List Tree) (rule : Tree → Option Step) (live : Bool) (t : Tree) (g : Given) → HasAnswer ts (Some g) (at_live rule live t) → GivenBelow (length ts) g
given_below ts rule live t g h = (some_at ts rule live t g h).2

-- the entry that was found
entry_is : (ts : List Tree) (es : List Placed) (r : Result) (f : Found) → IsFound ts es (Some r) f → r.entry ≡ entry_used f
entry_is ts es r (Alone u ns) h = same_entry r _ h.0
  where
    same_entry : (r q : Result) → Some r ≡ Some q → r.entry ≡ q.entry
    same_entry r q e = cc
entry_is ts es r (Splits u ns ms) h = same_entry r _ h.0
  where
    same_entry : (r q : Result) → Some r ≡ Some q → r.entry ≡ q.entry
    same_entry r q e = cc

-- an entry with its formula in the bank ts, and the answer at it in the bank us
module _ (k : ValueRank) (ts us : List Tree) (es : List Placed) (i : ℕ) (x : Extends ts us) (a : AreKnown (length ts) es) (l : i < length es) (n : NoneBefore (rule_of k (branch_of ts es)) i (branch_of ts es)) where
  passed : IsPassed (rule_of k) ts es i
  passed = record { within = omega (arith, l); none = n }

  pub position_kept : NoneBefore (rule_of k (branch_of us es)) i (branch_of us es)
  position_kept = (passed_kept (rule_of k) ts us es i x a passed).none

  pub passed_more : HasAnswer us None (at_live (rule_of k (branch_of ts es)) (placed_at es i).live (tree_at ts (placed_at es i).formula)) → NoneBefore (rule_of k (branch_of us es)) (i + 1) (branch_of us es)
  passed_more h =
      (passed_kept (rule_of k) ts us es (i + 1) x a (passed_next (rule_of k) ts es i passed l (none_at us (rule_of k (branch_of ts es)) (placed_at es i).live (tree_at ts (placed_at es i).formula) h))).none

  module _ (g : Given) (h : HasAnswer us (Some g) (at_live (rule_of k (branch_of ts es)) (placed_at es i).live (tree_at ts (placed_at es i).formula))) where
    step : ((placed_at es i).live ≡ true) × (rule_of k (branch_of ts es) (tree_at ts (placed_at es i).formula) ≡ Some (step_of us g)) × GivenBelow (length us) g
    step = some_at us (rule_of k (branch_of ts es)) (placed_at es i).live (tree_at ts (placed_at es i).formula) g h

    abbrev result : Result
    result = record { entry = i; step = step_of us g }

    by_oldest : (w : Fresh) → by_rank w (branch_of us es) (rank_of k) ≡ Some result
    by_oldest w =
        ranked k w (branch_of us es)
        ∙ ap (λ b. oldest (rule_of k b) 0 b) (branch_kept ts us es x a)
        ∙ passed_found (rule_of k) ts es i (step_of us g) passed l step.0 step.1

    pub fits_here : (f : Found) → IsFoundAt us i g f → (w : Fresh) → IsFound us es (by_rank w (branch_of us es) (rank_of k)) f
    fits_here f q w = subst (λ o. IsFound us es o f) (sym (by_oldest w)) (q es l step.0)

    pub position_found : (f : Found) → IsFoundAt us i g f → NoneBefore (rule_of k (branch_of us es)) (entry_used f) (branch_of us es)
    position_found f q = subst (λ j. NoneBefore (rule_of k (branch_of us es)) j (branch_of us es)) (entry_is us es result f (q es l step.0)) position_kept

-- no entry fits
pub fits_nowhere : (k : ValueRank) (ts : List Tree) (es : List Placed) (i : ℕ) → length es ≤ i → NoneBefore (rule_of k (branch_of ts es)) i (branch_of ts es) → (w : Fresh) → by_rank w (branch_of ts es) (rank_of k) ≡ None
fits_nowhere k ts es i l n w = ranked k w (branch_of ts es) ∙ oldest_none (rule_of k (branch_of ts es)) i (branch_of ts es) n (let e = branch_length ts es in omega (arith, e, l))

pub position_end : (k : ValueRank) (ts : List Tree) (es : List Placed) (i : ℕ) → length es ≤ i → NoneBefore (rule_of k (branch_of ts es)) i (branch_of ts es) → NoneBefore (rule_of k (branch_of ts es)) (length es) (branch_of ts es)
position_end k ts es i l n j a b c = n j (omega (arith, a, l)) b c
