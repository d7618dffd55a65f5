use Rattle.std.proofs.Common.{take}
use Rattle.branch_values.specs.News.{AreNews}
use Rattle.branch_values.proofs.news.with_classes.Given as goal

abbrev pub invariant-loop-i : goal.invariant-loop-i
invariant-loop-i l = AreNews l.bank (take l.i l.list) l.news.items
