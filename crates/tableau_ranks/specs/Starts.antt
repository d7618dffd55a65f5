-- Where the walk of a rank begins.
use Rattle.std.specs.Prelude.{ℕ, Option, Some, None, List}
use Rattle.rank_rules.specs.declared.entry_rank.EntryRank.{EntryRank}
use Rattle.rank_rules.specs.declared.entry_rank.EntryRank.TheVariants.{Plain, Derive, Choice, Split, Extension}
use Rattle.value_ranks.specs.declared.oldest_entry.ValueRank.{ValueRank}
use Rattle.value_ranks.specs.declared.oldest_entry.ValueRank.TheVariants.{Settle, TermSplit, TakeUp}
use Rattle.rank_memo.specs.declared.place.Place.{Place}
use Rattle.rank_memo.specs.declared.place.Place.TheVariants as place
use Rattle.rank_memo.specs.Looked.{position_at}

-- the place of the rank's position; derive looks at the whole branch each time
abbrev pub entry_place : EntryRank → Option Place
entry_place Plain = Some place.Plain
entry_place Derive = None
entry_place Choice = Some place.Choice
entry_place Split = Some place.Split
entry_place Extension = Some place.Extension

-- the same of a rank that looks at values; settle looks at the whole branch each time
abbrev pub value_place : ValueRank → Option Place
value_place Settle = None
value_place TermSplit = Some place.TermSplit
value_place TakeUp = Some place.TakeUp

-- the position of the place; without one, the oldest entry
abbrev pub start_at : List ℕ → Option Place → ℕ
start_at ps None = 0
start_at ps (Some q) = position_at ps q
