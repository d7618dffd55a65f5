-- Branches by numbers, and what the ranks give on them.
use Rattle.std.specs.Prelude.{◌≡◌, ℕ, ◌<◌, true, Option, Some, None, List, [], ◌∷◌, length, map}
use Rattle.core_expr.specs.Tree.{Tree, apply_}
use Rattle.core_expr.specs.Tree.Tree.{bound}
use Rattle.core_expr.specs.Put.{shift}
use Rattle.term_bank.specs.Banks.{tree_at}
use Rattle.search_definition.specs.Branches.{Entry, Branch}
use Rattle.search_definition.specs.Rules.{Step, Result}
use Rattle.search_definition.specs.Plain.{plain, choice}
use Rattle.search_definition.specs.Splits.{split}
use Rattle.search_definition.specs.Equations.{derive, extension}
use Rattle.search_definition.specs.declared.rule.Rank.{Rank}
use Rattle.search_definition.specs.declared.rule.Rank.TheVariants as rank
use Rattle.branch_state.specs.Shown.{Placed, placed_at}
use Rattle.formula_rules.specs.Answers.{step_of, GivenBelow}
use Rattle.rank_rules.specs.declared.entry_rank.EntryRank.{EntryRank}
use Rattle.rank_rules.specs.declared.entry_rank.EntryRank.TheVariants.{Plain, Derive, Choice, Split, Extension}
use Rattle.rank_rules.specs.declared.oldest_entry.Fitting.{Fitting}

-- the rule of a rank that takes the oldest entry that it fits
abbrev pub rule_of : EntryRank → Branch → Tree → Option Step
rule_of Plain b = plain
rule_of Derive b = derive b
rule_of Choice b = choice
rule_of Split b = split
rule_of Extension b = extension

-- the rank as the definition has it
abbrev pub rank_of : EntryRank → Rank
rank_of Plain = rank.Plain
rank_of Derive = rank.Derive
rank_of Choice = rank.Choice
rank_of Split = rank.Split
rank_of Extension = rank.Extension

-- the entry that a number's entry stands for
abbrev pub entry_of : List Tree → Placed → Entry
entry_of ts e = record { formula = tree_at ts e.formula; live = e.live; count = e.count }

-- the branch that the entries stand for
abbrev pub branch_of : List Tree → List Placed → Branch
branch_of ts es = map (entry_of ts) es

-- the formulas' numbers are below n
abbrev pub AreKnown : ℕ → List Placed → Type 0
AreKnown n [] = Unit {0}
AreKnown n (e ∷ es) = (e.formula < n) × AreKnown n es

-- the rule at this live entry is the result
pub record FitsAt (ts : List Tree) (es : List Placed) (r : Option Result) (x : Fitting) : Type 0 where
  pub is : r ≡ Some (record { entry = x.entry; step = step_of ts x.given })
  pub below : GivenBelow (length ts) x.given
  pub within : x.entry < length es
  pub lives : (placed_at es x.entry).live ≡ true

-- the answer is this result, where there is one
abbrev pub IsFitting : List Tree → List Placed → Option Result → Option Fitting → Type 0
IsFitting ts es r None = r ≡ None
IsFitting ts es r (Some x) = FitsAt ts es r x

-- the entry that fits, else the end
abbrev pub position : Option Fitting → ℕ → ℕ
position None n = n
position (Some x) n = x.entry

-- the value that g has at the variable of the innermost binder
abbrev pub own_of : Tree → Tree
own_of g = apply_ (shift 0 1 g) (bound 0)
