use Rattle.std.proofs.Common.{◌≡◌, ◌+◌, ◌*◌, ◌++◌, [], ◌∷◌, map, drop, fold}
use Rattle.tla_ast.specs.declared.tree.Path.{out-Path}
use Rattle.plain_syntax.specs.Syntax.{term_of, terms_of, each_group, each_key, each_def}
use Rattle.expression_level.specs.Weights.{join}
use Rattle.expression_level.specs.Scope.{turned, weight_of, weights_of, sets_of, keys_on, bodies_of, with_all, updates_on}
use Rattle.expression_level.proofs.walk.+weigh.Given as goal

abbrev pub invariant-weigh-loop-next : goal.invariant-weigh-loop-next
invariant-weigh-loop-next l = record {
  same : l.names ≡ l.fn.names;
  order : fold (turned l.fn.names l.depth l.at) l.stack.items (map (λ n. term_of n.now) (drop l.next-index l.next-items)) ≡ weight_of l.fn.names l.depth l.at (term_of l.node) ∷ [];
}

abbrev pub invariant-each-loop-index : goal.invariant-each-loop-index
invariant-each-loop-index l = record {
  same : l.names ≡ l.fn.names;
  rest : l.found.items ++ weights_of l.fn.names l.depth l.at (drop l.index l.flags) (terms_of (map term_of (drop l.index l.nodes)))
      ≡ weights_of l.fn.names l.depth l.at l.flags (terms_of (map term_of l.nodes));
}

abbrev pub invariant-sets-loop-group : goal.invariant-sets-loop-group
invariant-sets-loop-group l = record {
  same : l.names ≡ l.fn.names;
  rest : join l.all (sets_of l.fn.names l.depth l.at (each_group (drop l.group-index l.groups))) ≡ sets_of l.fn.names l.depth l.at (each_group l.groups);
}

abbrev pub invariant-keys-loop-part : goal.invariant-keys-loop-part
invariant-keys-loop-part l = record {
  same : l.names ≡ l.fn.names;
  rest : join l.all (keys_on l.fn.names l.depth l.at (each_key (drop l.part-index (out-Path l.path).keys))) ≡ keys_on l.fn.names l.depth l.at (each_key (out-Path l.path).keys);
}

abbrev pub invariant-definitions-loop-def : goal.invariant-definitions-loop-def
invariant-definitions-loop-def l = record {
  known : with_all l.depth l.at (each_def (drop l.def-index l.defs)) l.names ≡ with_all l.depth l.at (each_def l.defs) l.fn.names;
  rest : join l.all (bodies_of l.names l.depth l.at (each_def (drop l.def-index l.defs))) ≡ bodies_of l.fn.names l.depth l.at (each_def l.defs);
}

abbrev pub invariant-except-loop-index : goal.invariant-except-loop-index
invariant-except-loop-index l = record {
  same : l.names ≡ l.fn.names;
  rest : updates_on l.fn.names l.depth l.at (drop l.index l.paths) (drop l.index l.values) l.all ≡ updates_on l.fn.names l.depth l.at l.paths l.values l.initial.all;
}

abbrev pub decreases-weigh : goal.decreases-weigh
decreases-weigh l = 5 * goal.size-weigh l + 3

abbrev pub decreases-leaf : goal.decreases-leaf
decreases-leaf l = 5 * goal.size-leaf l + 1

abbrev pub decreases-each : goal.decreases-each
decreases-each l = 5 * goal.size-each l + 4

abbrev pub decreases-action : goal.decreases-action
decreases-action l = 5 * goal.size-action l + 0

abbrev pub decreases-domain : goal.decreases-domain
decreases-domain l = 5 * goal.size-domain l + 0

abbrev pub decreases-sets : goal.decreases-sets
decreases-sets l = 5 * goal.size-sets l + 1

abbrev pub decreases-behind : goal.decreases-behind
decreases-behind l = 5 * goal.size-behind l + 0

abbrev pub decreases-key : goal.decreases-key
decreases-key l = 5 * goal.size-key l + 0

abbrev pub decreases-keys : goal.decreases-keys
decreases-keys l = 5 * goal.size-keys l + 0

abbrev pub decreases-except : goal.decreases-except
decreases-except l = 5 * goal.size-except l + 0

abbrev pub decreases-definition : goal.decreases-definition
decreases-definition l = 5 * goal.size-definition l + 0

abbrev pub decreases-definitions : goal.decreases-definitions
decreases-definitions l = 5 * goal.size-definitions l + 1
