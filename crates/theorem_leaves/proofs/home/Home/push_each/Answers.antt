use Rattle.std.proofs.Common.{List, ◌++◌}
use Rattle.tla_ast.specs.declared.tree.Def.{Def}
use Rattle.obligation.specs.declared.obligation.Definition.{Definition}
use Rattle.plain_syntax.specs.Syntax.{each_def}
use Rattle.usable_facts.specs.Definitions as spec
use Rattle.theorem_leaves.specs.Homes.{means, entries}
use Rattle.theorem_leaves.specs.Definitions as own
use Rattle.theorem_leaves.proofs.Walks.{next}
use Rattle.theorem_leaves.proofs.Defined.{definition_first}
use Rattle.theorem_leaves.proofs.home.Home.push_each.Goals as goal

pub loop-def-preserved : goal.loop-def-preserved
loop-def-preserved c =
    let h = c.args.self.now in
    let f : List Def → List Definition = λ ds. spec.each_definition (entries h) (means h) (each_def ds) in
    next f (own.own h) (λ d ds. definition_first h d (each_def ds)) c.args.defs.now c.loop-def.def-index c.def-item.result (c.args.found.now.items ++ f c.args.defs.now) c.loop-def.found.items c.push_definition.new.found.items
    c.loop-def-test.true c.def-item.is c.in_ok-push_definition.ensures c.loop-def.invariant
