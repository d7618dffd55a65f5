use Rattle.std.proofs.Common.{◌≡◌, ◌+◌, drop}
use Rattle.expression_level.specs.Scope.{with_more}
use Rattle.expression_level.proofs.names.Names.bind_parameters.Given as goal

abbrev pub invariant-loop-param : goal.invariant-loop-param
invariant-loop-param l = record {
  bound : with_more l.fn.depth l.params l.fn.self ≡ with_more l.inner (drop l.param-index l.params) l.self;
  depth : l.inner ≡ l.fn.depth + l.param-index;
}
