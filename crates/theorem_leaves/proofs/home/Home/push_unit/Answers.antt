use Rattle.std.proofs.Common.{◌≡◌, ◌++◌, OnOk, ap, sym, subst, ◌∙◌}
use Rattle.plain_syntax.specs.Syntax.{kind_of}
use Rattle.usable_facts.specs.Definitions as spec
use Rattle.theorem_leaves.specs.Homes.{means, entries}
use Rattle.theorem_leaves.proofs.Defined.{lone_definition}
use Rattle.theorem_leaves.proofs.home.Home.push_unit.Goals as goal

pub returns-in-Define : goal.returns-in-Define
returns-in-Define c =
    let h = c.args.self.now in
    subst (λ x. OnOk c.push_definition.result (c.push_definition.new.found.items ≡ c.args.found.now.items ++ x))
    (sym (ap (λ k. spec.in_unit (entries h) (means h) (kind_of k)) c.in-Define.is ∙ lone_definition h c.in-Define.def)) c.push_definition.ensures
