use Rattle.std.proofs.Common.{◌≡◌, ◌+◌, ◌*◌, ◌-◌, [], length, map, drop, fold}
use Rattle.tla_ast.specs.declared.tree.Path.{out-Path}
use Rattle.plain_syntax.specs.Syntax.{term_of, terms_of, keys_of, updates_of}
use Rattle.module_scope.specs.Known.{book_of, texts}
use Rattle.module_scope.specs.Names.{all_names, update_names, field_names, names}
use Rattle.module_scope.specs.Visits.{visited, set_group, define_step, key_step}
use Rattle.module_scope.proofs.walker.Walker.+walk.Given as goal

abbrev pub invariant-all-loop-node : goal.invariant-all-loop-node
invariant-all-loop-node l =
    all_names (terms_of (map term_of l.nodes)) (book_of l.fn.self) ≡ all_names (terms_of (map term_of (drop l.node-index l.nodes))) (book_of l.self)

abbrev pub invariant-domains-loop-group : goal.invariant-domains-loop-group
invariant-domains-loop-group l = fold set_group (book_of l.fn.self) l.groups ≡ fold set_group (book_of l.self) (drop l.group-index l.groups)

abbrev pub invariant-definitions-loop-def : goal.invariant-definitions-loop-def
invariant-definitions-loop-def l = fold define_step (book_of l.fn.self) l.defs ≡ fold define_step (book_of l.self) (drop l.def-index l.defs)

abbrev pub invariant-keys-loop-key : goal.invariant-keys-loop-key
invariant-keys-loop-key l = fold key_step (book_of l.fn.self) (out-Path l.path).keys ≡ fold key_step (book_of l.self) (drop l.key-index (out-Path l.path).keys)

abbrev pub invariant-except-loop-at : goal.invariant-except-loop-at
invariant-except-loop-at l =
    update_names (updates_of (map keys_of l.paths) (map term_of l.values)) (book_of l.initial.self)
    ≡ update_names (updates_of (map keys_of (drop l.at l.paths)) (map term_of (drop l.at l.values))) (book_of l.self)

abbrev pub invariant-fields-loop-at : goal.invariant-fields-loop-at
invariant-fields-loop-at l =
    field_names [] (terms_of (map term_of l.parts)) (book_of l.fn.self) ≡ field_names (texts l.seen) (terms_of (map term_of (drop l.at l.parts))) (book_of l.self)

abbrev pub decreases-fields-loop-at : goal.decreases-fields-loop-at
decreases-fields-loop-at l = length l.parts - l.at

abbrev pub invariant-expression-loop-node : goal.invariant-expression-loop-node
invariant-expression-loop-node l =
    names (term_of l.fn.node) (book_of l.fn.self) ≡ fold visited (book_of l.self) (map (λ n. term_of n.now) (drop l.node-index l.node-items))

abbrev pub decreases-all : goal.decreases-all
decreases-all l = 4 * goal.size-all l + 3

abbrev pub decreases-application : goal.decreases-application
decreases-application l = 4 * goal.size-application l + 0

abbrev pub decreases-binder : goal.decreases-binder
decreases-binder l = 4 * goal.size-binder l + 0

abbrev pub decreases-definition : goal.decreases-definition
decreases-definition l = 4 * goal.size-definition l + 0

abbrev pub decreases-definitions : goal.decreases-definitions
decreases-definitions l = 4 * goal.size-definitions l + 1

abbrev pub decreases-domain : goal.decreases-domain
decreases-domain l = 4 * goal.size-domain l + 0

abbrev pub decreases-domains : goal.decreases-domains
decreases-domains l = 4 * goal.size-domains l + 1

abbrev pub decreases-except : goal.decreases-except
decreases-except l = 4 * goal.size-except l + 0

abbrev pub decreases-expression : goal.decreases-expression
decreases-expression l = 4 * goal.size-expression l + 2

abbrev pub decreases-fields : goal.decreases-fields
decreases-fields l = 4 * goal.size-fields l + 0

abbrev pub decreases-inside : goal.decreases-inside
decreases-inside l = 4 * goal.size-inside l + 0

abbrev pub decreases-key : goal.decreases-key
decreases-key l = 4 * goal.size-key l + 0

abbrev pub decreases-keys : goal.decreases-keys
decreases-keys l = 4 * goal.size-keys l + 0

abbrev pub decreases-visit : goal.decreases-visit
decreases-visit l = 4 * goal.size-visit l + 1
