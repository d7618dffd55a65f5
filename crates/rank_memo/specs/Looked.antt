-- How far a branch has been looked at.
use Rattle.std.specs.Prelude.{◌≡◌, ℕ, ◌<◌, Bool, true, Option, None, List, length, slice_set}
use Rattle.std.proofs.Common.{get_or}
use Rattle.core_expr.specs.Tree.{Tree}
use Rattle.term_bank.specs.Banks.{IsDistinct, Extends}
use Rattle.search_definition.specs.Branches.{Branch}
use Rattle.search_definition.specs.Rules.{Step}
use Rattle.search_definition.specs.Plain.{plain, rewrite, choice}
use Rattle.search_definition.specs.Splits.{split, term_split, take_up}
use Rattle.search_definition.specs.Equations.{extension}
use Rattle.branch_state.specs.declared.parts.New.{New}
use Rattle.branch_state.specs.Shown.{Placed, placed_at, with_new, used_at}
use Rattle.tableau_search.specs.Entries.{AreKnown}
use Rattle.entry_positions.specs.Passed.{Shrinks, IsSteady, IsPassed, IsOpen}
use Rattle.entry_positions.proofs.PassedLaws.{passed_added, passed_used, passed_kept}
use Rattle.entry_positions.proofs.OpenLaws.{open_added, open_used, open_kept}
use Rattle.entry_positions.proofs.TermLaws.{term_split_shrinks, term_split_steady, take_up_shrinks, take_up_steady}
use Rattle.std.proofs.Common.{refl}
use Rattle.rank_memo.specs.declared.place.Place.{Place}
use Rattle.rank_memo.specs.declared.place.Place.TheVariants.{Closing, Plain, Rewrite, Choice, Split, TermSplit, Extension, TakeUp}

-- the number of a place
abbrev pub number_of : Place → ℕ
number_of Closing = 0
number_of Plain = 1
number_of Rewrite = 2
number_of Choice = 3
number_of Split = 4
number_of TermSplit = 5
number_of Extension = 6
number_of TakeUp = 7

-- the rule of the rank that has the place; closings have none
abbrev pub rule_at : Place → Branch → Tree → Option Step
rule_at Closing b f = None
rule_at Plain b f = plain f
rule_at Rewrite b f = rewrite f
rule_at Choice b f = choice f
rule_at Split b f = split f
rule_at TermSplit b f = term_split b f
rule_at Extension b f = extension f
rule_at TakeUp b f = take_up b f

-- the position of the place
abbrev pub position_at : List ℕ → Place → ℕ
position_at ps q = get_or ps (number_of q) 0

-- the positions with that of the place moved
abbrev pub moved : List ℕ → Place → ℕ → List ℕ
moved ps q p = slice_set ps (number_of q) p

-- the positions are right for the branch of these entries
pub record IsLooked (ts : List Tree) (es : List Placed) (ps : List ℕ) : Type 0 where
  pub count : length ps ≡ 8
  pub shut : IsOpen ts es (position_at ps Closing)
  pub passed : (q : Place) → IsPassed (rule_at q) ts es (position_at ps q)

-- the position of the place is right
abbrev pub IsRightAt : List Tree → List Placed → Place → ℕ → Type 0
IsRightAt ts es Closing p = IsOpen ts es p
IsRightAt ts es q p = IsPassed (rule_at q) ts es p

shrinks : (q : Place) → Shrinks (rule_at q)
shrinks Closing b f g h = h
shrinks Plain b f g h = h
shrinks Rewrite b f g h = h
shrinks Choice b f g h = h
shrinks Split b f g h = h
shrinks TermSplit b f g h = term_split_shrinks b f g h
shrinks Extension b f g h = h
shrinks TakeUp b f g h = take_up_shrinks b f g h

steady : (q : Place) → IsSteady (rule_at q)
steady Closing s r b i g = refl
steady Plain s r b i g = refl
steady Rewrite s r b i g = refl
steady Choice s r b i g = refl
steady Split s r b i g = refl
steady TermSplit s r b i g = term_split_steady s r b i g
steady Extension s r b i g = refl
steady TakeUp s r b i g = take_up_steady s r b i g

-- they stay right after a formula is added
pub looked_added : (ts : List Tree) (es : List Placed) (needs : List ℕ) (n : New) (ps : List ℕ) → IsDistinct ts → AreKnown (length ts) es → n.formula < length ts → IsLooked ts es ps → IsLooked ts (with_new needs es n) ps
looked_added ts es needs n ps d a l h =
    record { count = h.count; shut = open_added ts es needs n (position_at ps Closing) h.shut; passed = λ q. passed_added (rule_at q) ts es needs n (position_at ps q) (shrinks q) d a l (h.passed q) }

-- they stay right after a live entry is used
pub looked_used : (ts : List Tree) (es : List Placed) (stays rises : Bool) (i : ℕ) (ps : List ℕ) → (placed_at es i).live ≡ true → IsLooked ts es ps → IsLooked ts (used_at stays rises es i) ps
looked_used ts es stays rises i ps v h =
    record { count = h.count; shut = open_used ts es stays rises i (position_at ps Closing) h.shut; passed = λ q. passed_used (rule_at q) ts es stays rises i (position_at ps q) (steady q) v (h.passed q) }

-- they stay right after formulas got numbers
pub looked_kept : (ts us : List Tree) (es : List Placed) (ps : List ℕ) → Extends ts us → AreKnown (length ts) es → IsLooked ts es ps → IsLooked us es ps
looked_kept ts us es ps g a h =
    record { count = h.count; shut = open_kept ts us es (position_at ps Closing) g a h.shut; passed = λ q. passed_kept (rule_at q) ts us es (position_at ps q) g a (h.passed q) }
