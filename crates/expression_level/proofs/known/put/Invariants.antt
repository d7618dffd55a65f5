use Rattle.std.proofs.Common.{◌≡◌, drop}
use Rattle.expression_level.specs.Weights.{join, put}
use Rattle.expression_level.proofs.known.put.Given as goal

abbrev pub invariant-loop-index : goal.invariant-loop-index
invariant-loop-index l = join l.all (put l.place (drop l.index l.own) (drop l.index l.args)) ≡ put l.place l.own l.args
