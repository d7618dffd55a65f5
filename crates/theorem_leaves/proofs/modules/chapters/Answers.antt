use Rattle.std.proofs.Common.{◌≡◌, map, IfOk, subst, ◌∙◌}
use Rattle.plain_syntax.specs.Syntax.{module_of}
use Rattle.known_facts.specs.Clean.{definitions_of}
use Rattle.theorem_leaves.proofs.Reading.{chapters-passed}
use Rattle.theorem_leaves.proofs.modules.chapters.Goals as goal

pub returns : goal.returns
returns c =
    subst (λ z. IfOk c.modules.result (λ cs. cs ≡ z))
    (chapters-passed (map module_of c.args.modules.now) c.args.scoped.now (definitions_of c.in_ok-table.table) c.in_ok-theorems.theorems.keys
    (c.in_ok-table.ensures.table ∙ c.in_ok-definitions.ensures) c.in_ok-theorems.ensures)
    c.modules.ensures
