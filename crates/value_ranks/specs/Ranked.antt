-- Answers of the ranks that look at values.
use Rattle.std.specs.Prelude.{ℕ, Option, Some, None}
use Rattle.core_expr.specs.Tree.{Tree}
use Rattle.search_definition.specs.declared.rule.Rank.{Rank}
use Rattle.search_definition.specs.declared.rule.Rank.TheVariants as rank
use Rattle.search_definition.specs.Branches.{Branch}
use Rattle.search_definition.specs.Rules.{Step}
use Rattle.search_definition.specs.Splits.{settle, take_up, term_split}
use Rattle.tableau_search.specs.declared.finder.Found.{Found}
use Rattle.tableau_search.specs.declared.finder.Found.TheVariants.{Alone, Splits}
use Rattle.value_ranks.specs.declared.oldest_entry.ValueRank.{ValueRank}
use Rattle.value_ranks.specs.declared.oldest_entry.ValueRank.TheVariants.{Settle, TakeUp, TermSplit}

-- the rank as the definition has it
abbrev pub rank_of : ValueRank → Rank
rank_of Settle = rank.Settle
rank_of TakeUp = rank.TakeUp
rank_of TermSplit = rank.TermSplit

-- the rule of the rank
abbrev pub rule_of : ValueRank → Branch → Tree → Option Step
rule_of Settle b = settle b
rule_of TakeUp b = take_up b
rule_of TermSplit b = term_split b

-- the entry that was found to be used
abbrev pub entry_used : Found → ℕ
entry_used (Alone u ns) = u.entry
entry_used (Splits u ns ms) = u.entry

-- the entry that the rank fits, else the end
abbrev pub position : Option Found → ℕ → ℕ
position None n = n
position (Some f) n = entry_used f
