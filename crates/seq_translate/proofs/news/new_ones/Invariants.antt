use Rattle.std.proofs.Common.{◌≡◌, ◌++◌, drop}
use Rattle.seq_translate.specs.News.{news_of}
use Rattle.seq_translate.proofs.news.new_ones.Given as goal

abbrev pub invariant-loop-formula : goal.invariant-loop-formula
invariant-loop-formula l = l.news.items ++ news_of (drop l.formula-index l.added) ≡ news_of l.added
