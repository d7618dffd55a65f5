use Rattle.std.proofs.Common.{arith}
use Rattle.cache_file.proofs.LineLaws.{first_line, only_line}
use Rattle.cache_file.proofs.lines.split_line.Goals as goal

pub returns-in-Some-clause-lines : goal.returns-in-Some-clause-lines
returns-in-Some-clause-lines c = first_line _ _ _ (omega arith) c.in-Some.ensures

pub returns-in-None-clause-lines : goal.returns-in-None-clause-lines
returns-in-None-clause-lines c = only_line _ c.requires c.in-None.ensures
